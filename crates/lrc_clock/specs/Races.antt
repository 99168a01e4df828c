-- The races of a run by its times.
use Rattle.std.specs.Prelude.{◌≡◌, ℕ, ◌<◌, ◌⊎◌, List}
use Rattle.lrc_trace.specs.declared.act.Act.{Act}
use Rattle.lrc_trace.specs.declared.race.Race.{Race}
use Rattle.lrc_trace.specs.Conflict.{Writes, Accesses, ConflictAt}
use Rattle.lrc_trace.specs.Interval.{interval_at}
use Rattle.lrc_time.specs.Time.{entry}
use Rattle.lrc_clock.specs.Times.{time_at, raised}

-- neither of two accesses' times covers the other's interval
pub record AreUnknown (run : List Act) (times : List (List ℕ)) (i p j q : ℕ) : Type 0 where
  pub first : entry (time_at times j) p < interval_at run p i
  pub second : entry (time_at times i) q < interval_at run q j

-- the race names two conflicting accesses of which neither's time covers the other's interval
pub record NamesUnknown (run : List Act) (times : List (List ℕ)) (race : Race) (i j : ℕ) : Type 0 where
  pub ascending : race.node_a < race.node_b
  pub conflict : ConflictAt run i race.node_a j race.node_b race.word
  pub unknown : AreUnknown run times i race.node_a j race.node_b
  pub interval_a : race.interval_a ≡ interval_at run race.node_a i
  pub interval_b : race.interval_b ≡ interval_at run race.node_b j

-- the node writes the word in this interval of its own, or accesses it
abbrev pub WritesIn : List Act → ℕ → ℕ → ℕ → Type 0
WritesIn run node index word = (i : ℕ) × Writes run i node word × (interval_at run node i ≡ index)

abbrev pub AccessesIn : List Act → ℕ → ℕ → ℕ → Type 0
AccessesIn run node index word = (i : ℕ) × Accesses run i node word × (interval_at run node i ≡ index)

-- A segment: an interval of a node with an access, and the node's time in it with the own entry one greater.
pub record IsSegmentOf (run : List Act) (times : List (List ℕ)) (node index : ℕ) (time : List ℕ) : Type 0 where
  pub position : ℕ
  pub word : ℕ
  pub access : Accesses run position node word
  pub interval : interval_at run node position ≡ index
  pub stamp : time ≡ raised (time_at times position) node

-- The race is one of two segments of different nodes, of which one wrote the word, the other read or wrote it, and neither
-- time covers the other's interval.
pub record IsRaceOfSegments (run : List Act) (times : List (List ℕ)) (race : Race) : Type 0 where
  pub ascending : race.node_a < race.node_b
  pub time_a : List ℕ
  pub time_b : List ℕ
  pub segment_a : IsSegmentOf run times race.node_a race.interval_a time_a
  pub segment_b : IsSegmentOf run times race.node_b race.interval_b time_b
  pub accesses : (WritesIn run race.node_a race.interval_a race.word × AccessesIn run race.node_b race.interval_b race.word)
      ⊎ (AccessesIn run race.node_a race.interval_a race.word × WritesIn run race.node_b race.interval_b race.word)
  pub unknown_a : entry time_b race.node_a < race.interval_a
  pub unknown_b : entry time_a race.node_b < race.interval_b
