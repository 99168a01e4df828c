-- The races that a run names, as a list.
use Rattle.std.specs.Prelude.{◌≡◌, ℕ, ◌≤◌, ◌↔◌, if◌then◌else◌, nat_lt, List, Contains, slice_index}
use Rattle.std.specs.Ordering.{nat_cmp, ordering_then}
use Rattle.std.specs.List.Sorted.{IsStrictlySortedBy}
use Rattle.std.specs.declared.cmp.Ordering.{Ordering}
use Rattle.lrc_trace.specs.declared.act.Act.{Act}
use Rattle.lrc_trace.specs.declared.act.Deed.{Deed}
use Rattle.lrc_trace.specs.declared.act.Deed.TheVariants.{Read, Write}
use Rattle.lrc_trace.specs.declared.race.Race.{Race}
use Rattle.lrc_trace.specs.Run.{Does}
use Rattle.lrc_trace.specs.Conflict.{Races}
use Rattle.lrc_trace.specs.Interval.{IsNamedRace}
use Rattle.lrc_judge.specs.declared.lanes.Pair.{Pair}
use Rattle.lrc_judge.specs.FirstPairs.{IsPairOf}

-- races by word, then by nodes, then by intervals
abbrev pub race_cmp : Race → Race → Ordering
race_cmp a b = ordering_then (nat_cmp a.word b.word)
    (ordering_then (nat_cmp a.node_a b.node_a)
    (ordering_then (nat_cmp a.node_b b.node_b)
    (ordering_then (nat_cmp a.interval_a b.interval_a) (nat_cmp a.interval_b b.interval_b))))

-- the list has exactly the races that the run names, ascending, each once
pub record AreNamedRaces (run : List Act) (races : List Race) : Type 0 where
  pub ascending : IsStrictlySortedBy race_cmp races
  pub exact : (race : Race) → Contains races race ↔ IsNamedRace run race

-- the word of an access
abbrev pub word_of : Deed → ℕ
word_of (Read word value) = word
word_of (Write word value) = word
word_of _ = 0

-- the race of accesses of two nodes in these intervals, the lower node first
abbrev pub race_of_places : ℕ → ℕ → ℕ → ℕ → ℕ → Race
race_of_places word p i q j = if nat_lt p q
    then record { word = word; node_a = p; node_b = q; interval_a = i; interval_b = j }
    else record { word = word; node_a = q; node_b = p; interval_a = j; interval_b = i }

-- the race is that of the acts at the two positions
pub record IsNameOf (run : List Act) (intervals : List ℕ) (pair : Pair) (race : Race) : Type 0 where
  pub p : ℕ
  pub q : ℕ
  pub a : Deed
  pub b : Deed
  pub first : Does run pair.earlier p a
  pub second : Does run pair.later q b
  pub is : race ≡ race_of_places (word_of b) p (slice_index intervals pair.earlier) q (slice_index intervals pair.later)

-- each pair races, and for each pair that a race names there is one that it names and that is not later
pub record AreRacePairs (run : List Act) (pairs : List Pair) : Type 0 where
  pub sound : (pair : Pair) → Contains pairs pair → Races run pair.earlier pair.later
  pub complete : (race : Race) (other : Pair) → IsPairOf run race other
      → (pair : Pair) × Contains pairs pair × IsPairOf run race pair × (pair.later ≤ other.later) × (pair.earlier ≤ other.earlier)
