-- What is known of a trace by which claims are judged.
use Rattle.std.specs.Prelude.{ℕ, List, length}
use Rattle.lrc_races_trace.specs.declared.event.Event.{Event}
use Rattle.lrc_races_text.specs.declared.asked.Sought.{Sought}
use Rattle.lrc_races_text.specs.Naming.{Naming}
use Rattle.lrc_races_claims.specs.declared.judging.Facts.{Facts}
use Rattle.lrc_races_claims.specs.declared.judging.FirstRacing.{FirstRacing}
use Rattle.lrc_races_claims.specs.declared.judging.FirstRacing.TheVariants as racing
use Rattle.lrc_races_claims.specs.Racing.{AreMarked}
use Rattle.lrc_races_claims.specs.Firsts.{AreFirsts}
use Rattle.lrc_races_claims.specs.Truth.{SomeIsOf, SomeRacesOf, IsFirstOf}

-- the facts are those of the trace
pub record AreFacts (sought : Sought) (events : List Event) (facts : Facts) : Type 0 where
  pub marked : AreMarked sought events (length events) facts.marks.items
  pub firsts : AreFirsts events facts.marks.items (length events) facts.firsts

-- this is the first access of the variable of this name that races with an earlier one
abbrev pub IsFirstFound : Sought → Naming → List Event → List ℕ → FirstRacing → Type 0
IsFirstFound sought naming events name racing.NoAccess = ¬ SomeIsOf naming events name
IsFirstFound sought naming events name racing.NoRace = SomeIsOf naming events name × ¬ SomeRacesOf sought naming events name
IsFirstFound sought naming events name (racing.On line) = IsFirstOf sought naming events name line
