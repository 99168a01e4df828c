-- The accesses that race with earlier ones.
use Rattle.std.specs.Prelude.{◌≡◌, ℕ, ◌≤◌, ◌↔◌, List, Bool, IsTrue, Some, length, slice_get}
use Rattle.lrc_races_trace.specs.declared.event.Event.{Event}
use Rattle.lrc_races_trace.specs.Trace.{At, Accesses}
use Rattle.lrc_races_text.specs.declared.asked.Sought.{Sought}
use Rattle.lrc_races_locations.specs.Rivals.{Rivals}

-- the access at position j races with an earlier one
pub record RacesBefore (sought : Sought) (events : List Event) (j : ℕ) : Type 0 where
  pub i : ℕ
  pub rivals : Rivals sought events i j

-- the event at position j is an access of the variable, and one that races with an earlier one
pub record AccessAt (events : List Event) (variable j : ℕ) (event : Event) : Type 0 where
  pub at : At events j event
  pub accesses : Accesses event variable

pub record RacingAt (sought : Sought) (events : List Event) (variable j : ℕ) (event : Event) : Type 0 where
  pub access : AccessAt events variable j event
  pub races : RacesBefore sought events j

-- the first access of the variable that races with an earlier one
pub record IsFirstRacing (sought : Sought) (events : List Event) (variable j : ℕ) (event : Event) : Type 0 where
  pub racing : RacingAt sought events variable j event
  pub first : (k : ℕ) (other : Event) → RacingAt sought events variable k other → j ≤ k

-- A mark for each event before position n: whether it races with an earlier one.
pub record AreMarked (sought : Sought) (events : List Event) (n : ℕ) (marks : List Bool) : Type 0 where
  pub long : length marks ≡ n
  pub exact : (j : ℕ) (mark : Bool) → slice_get marks j ≡ Some mark → IsTrue mark ↔ RacesBefore sought events j
