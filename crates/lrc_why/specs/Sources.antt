-- What a read gives, and by which writes.
use Rattle.std.specs.Prelude.{◌↔◌, ℕ, IsTrue, List, Option, Some, None, MatchOption}
use Rattle.lrc_trace.specs.declared.act.Act.{Act}
use Rattle.lrc_trace.specs.Reading.{MayRead}
use Rattle.lrc_judge.specs.Allowed.{AreAllowed}
use Rattle.lrc_why_chains.specs.Known.{IsActOf}
use Rattle.lrc_why_chains.specs.Writes.{AreExactly, IsKnownWrite, IsLastKnownWrite, IsCrossing, IsFirstCrossing, IsUnfollowed, IsLastUnknownWrite}
use Rattle.lrc_why.specs.declared.reasons.Gift.{Gift}
use Rattle.lrc_why.specs.declared.reasons.Several.{Several}
use Rattle.lrc_why.specs.declared.reasons.Since.{Since as SinceRecord}
use Rattle.lrc_why.specs.declared.reasons.Source.{Source}
use Rattle.lrc_why.specs.declared.reasons.Source.TheVariants.{Nothing, Last, Racing}
use Rattle.lrc_why.specs.Since.{IsSince}

-- a write of the node's own has no since; another node's has the node's since
abbrev pub IsSinceOfOther : List Act → ℕ → ℕ → Option SinceRecord → Type 0
IsSinceOfOther run node write None = IsActOf run node write
IsSinceOfOther run node write (Some since) = (¬ IsActOf run node write) × IsSince run node write since

-- of known writes that race: the first two, what the read may give, and the writes that no other one follows
pub record AreSeveral (run : List Act) (position word : ℕ) (several : Several) : Type 0 where
  pub crossing : IsFirstCrossing run position word several.earlier several.later
  pub values : AreAllowed run position word several.values.items
  pub last : AreExactly (IsUnfollowed run position word) several.last.items

-- By which writes a read of the word by the node may give what it may: by none where none is known; by the last one known where no two of
-- them race; or else by several.
abbrev pub IsSource : List Act → ℕ → ℕ → ℕ → Source → Type 0
IsSource run node position word Nothing = (i : ℕ) → ¬ IsKnownWrite run position word i
IsSource run node position word (Last write since) = IsLastKnownWrite run position word write
    × ((i j : ℕ) → ¬ IsCrossing run position word i j) × IsSinceOfOther run node write since
IsSource run node position word (Racing several) = AreSeveral run position word several

-- what a read of the word by the node, which gives this value, is about
pub record IsGift (run : List Act) (node position word value : ℕ) (gift : Gift) : Type 0 where
  pub allowed : IsTrue gift.allowed ↔ MayRead run position word value
  pub source : IsSource run node position word gift.source
  pub unknown : MatchOption gift.unknown ((i : ℕ) → ¬ IsLastUnknownWrite run position word i) (IsLastUnknownWrite run position word)
