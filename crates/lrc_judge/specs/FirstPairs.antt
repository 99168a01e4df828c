-- Of each race that a run names the first pair of positions that it names.
use Rattle.std.specs.Prelude.{◌≡◌, ℕ, ◌<◌, ◌≤◌, ◌⊎◌, ◌↔◌, List, Contains}
use Rattle.std.specs.List.Sorted.{IsStrictlySortedBy}
use Rattle.lrc_trace.specs.declared.act.Act.{Act}
use Rattle.lrc_trace.specs.declared.race.Race.{Race}
use Rattle.lrc_trace.specs.Conflict.{Races}
use Rattle.lrc_trace.specs.Interval.{Names}
use Rattle.lrc_judge.specs.declared.lanes.Pair.{Pair}
use Rattle.lrc_judge.specs.Pairs.{pair_cmp}

-- the acts at the two positions race, and the race names them
pub record IsPairOf (run : List Act) (race : Race) (pair : Pair) : Type 0 where
  pub races : Races run pair.earlier pair.later
  pub named : Names run race pair.earlier pair.later ⊎ Names run race pair.later pair.earlier

-- of the pairs that the race names the one with the least later position, and of these the one with the least earlier one
pub record IsFirstPair (run : List Act) (race : Race) (pair : Pair) : Type 0 where
  pub of : IsPairOf run race pair
  pub least : (other : Pair) → IsPairOf run race other
      → (pair.later < other.later) ⊎ ((pair.later ≡ other.later) × (pair.earlier ≤ other.earlier))

-- the list has exactly the first pairs of the races that the run names, ascending, each once
pub record AreFirstPairs (run : List Act) (pairs : List Pair) : Type 0 where
  pub ascending : IsStrictlySortedBy pair_cmp pairs
  pub exact : (pair : Pair) → Contains pairs pair ↔ ((race : Race) × IsFirstPair run race pair)
