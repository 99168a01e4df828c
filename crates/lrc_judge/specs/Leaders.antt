-- Of a list of pairs the first one of each race.
use Rattle.std.specs.Prelude.{◌≡◌, ℕ, ◌<◌, ◌≤◌, List, Some, Contains, slice_get}
use Rattle.lrc_trace.specs.declared.act.Act.{Act}
use Rattle.lrc_trace.specs.declared.race.Race.{Race}
use Rattle.lrc_judge.specs.declared.lanes.Pair.{Pair}
use Rattle.lrc_judge.specs.Races.{IsNameOf}

-- the pair stands at this index, and no pair before it is of the same race
pub record IsLeaderAt (run : List Act) (intervals : List ℕ) (pairs : List Pair) (k : ℕ) (pair : Pair) : Type 0 where
  pub is : slice_get pairs k ≡ Some pair
  pub fresh : (m : ℕ) (other : Pair) (race : Race) → m < k → slice_get pairs m ≡ Some other
      → IsNameOf run intervals other race → ¬ IsNameOf run intervals pair race

-- the list has pairs that are the first of their race, and for each pair one of its race that does not stand behind it
pub record AreLeaders (run : List Act) (intervals : List ℕ) (pairs leaders : List Pair) : Type 0 where
  pub sound : (pair : Pair) → Contains leaders pair → (k : ℕ) × IsLeaderAt run intervals pairs k pair
  pub complete : (k : ℕ) (pair : Pair) (race : Race) → slice_get pairs k ≡ Some pair → IsNameOf run intervals pair race
      → (j : ℕ) × (leader : Pair) × (j ≤ k) × (slice_get pairs j ≡ Some leader) × Contains leaders leader × IsNameOf run intervals leader race
