-- By which writes a read gives what it gives.
use Rattle.std.specs.Prelude.{ℕ, List, MatchOption, Option}
use Rattle.lrc_trace.specs.declared.act.Act.{Act}
use Rattle.lrc_trace.specs.declared.act.Deed.TheVariants.{Read}
use Rattle.lrc_trace.specs.Run.{IsDone}
use Rattle.lrc_why_chains.specs.Writes.{AreExactly, IsLastUnknownWrite, IsUnfollowed}
use Rattle.lrc_step.specs.declared.given.Given.{Given}
use Rattle.lrc_step.specs.Told.{IsReadAt}

-- The act at the position reads a word. The last writes to it that are known there are those that no other known one follows; and the last write
-- before it in the run, where that is not known there.
pub record IsGiven (run : List Act) (position : ℕ) (given : Given) : Type 0 where
  pub word : ℕ
  pub value : ℕ
  pub reads : IsDone run position (Read word value)
  pub last : AreExactly (IsUnfollowed run position word) given.last.items
  pub unknown : MatchOption given.unknown ((i : ℕ) → ¬ IsLastUnknownWrite run position word i) (IsLastUnknownWrite run position word)

-- the same, or none of an act that is no read
abbrev pub IsGivenIfRead : List Act → ℕ → Option Given → Type 0
IsGivenIfRead run position given = MatchOption given (¬ IsReadAt run position) (IsGiven run position)
