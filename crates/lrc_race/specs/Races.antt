-- The races of traces: accesses of different nodes to one word, at least one of them a write, in intervals of which
-- neither knows the other.
use Rattle.std.specs.Prelude.{◌≡◌, ◌<◌, ◌≤◌, ◌↔◌, ◌||◌, ℕ, Bool, if◌then◌else◌, nat_lt, List, Contains, IsTrue, Some, length, slice_get}
use Rattle.std.specs.List.Sorted.{IsStrictlySortedBy}
use Rattle.lrc_time.specs.Time.{Covers, Knows}
use Rattle.lrc_trace.specs.declared.race.Race.{Race}
use Rattle.lrc_trace.specs.declared.trace.Segment.{Segment}
use Rattle.lrc_trace.specs.Trace.{TraceRecord, has_access}
use Rattle.lrc_judge.specs.Races.{race_cmp}

-- neither time knows the other's interval
pub record AreUnordered (a : TraceRecord) (s : Segment) (b : TraceRecord) (t : Segment) : Type 0 where
  pub first : ¬ Knows s.time b.node t.interval
  pub second : ¬ Knows t.time a.node s.interval

-- both access the word, and one of them writes it
pub record AreConflicting (a : TraceRecord) (s : Segment) (b : TraceRecord) (t : Segment) (word : ℕ) : Type 0 where
  pub first_writes : Bool
  pub second_writes : Bool
  pub one : IsTrue (first_writes || second_writes)
  pub first : IsTrue (has_access a.size s first_writes word)
  pub second : IsTrue (has_access b.size t second_writes word)

-- the race is one of the segments of two of the traces
pub record IsRaceOf (traces : List TraceRecord) (race : Race) : Type 0 where
  pub a : TraceRecord
  pub b : TraceRecord
  pub s : Segment
  pub t : Segment
  pub a_there : Contains traces a
  pub b_there : Contains traces b
  pub s_there : Contains a.segments s
  pub t_there : Contains b.segments t
  pub node_a : race.node_a ≡ a.node
  pub node_b : race.node_b ≡ b.node
  pub interval_a : race.interval_a ≡ s.interval
  pub interval_b : race.interval_b ≡ t.interval
  pub ascending : race.node_a < race.node_b
  pub conflicting : AreConflicting a s b t race.word
  pub unordered : AreUnordered a s b t

-- the list has exactly the races of the traces, ascending, each once
pub record AreRacesOf (traces : List TraceRecord) (races : List Race) : Type 0 where
  pub ascending : IsStrictlySortedBy race_cmp races
  pub exact : (race : Race) → Contains races race ↔ IsRaceOf traces race

-- the trace is of a node below this number, and each of its times has as many entries
abbrev pub IsTraceOf : ℕ → TraceRecord → Type 0
IsTraceOf nodes a = (a.node < nodes) × ((s : Segment) → Contains a.segments s → length s.time ≡ nodes)

-- the traces are of nodes below this number, and each time has an entry for each of these nodes
pub record AreTracesOf (nodes : ℕ) (traces : List TraceRecord) : Type 0 where
  pub below : (a : TraceRecord) → Contains traces a → a.node < nodes
  pub entries : (a : TraceRecord) (s : Segment) → Contains traces a → Contains a.segments s → length s.time ≡ nodes

-- the race of two segments of different nodes, the lower node first
abbrev pub race_named : ℕ → TraceRecord → Segment → TraceRecord → Segment → Race
race_named word a s b t = if nat_lt a.node b.node
    then record { word = word; node_a = a.node; node_b = b.node; interval_a = s.interval; interval_b = t.interval }
    else record { word = word; node_a = b.node; node_b = a.node; interval_a = t.interval; interval_b = s.interval }

-- no time of the trace lacks what an earlier one has
abbrev pub RisesAlong : TraceRecord → Type 0
RisesAlong trace = (i j : ℕ) (s t : Segment) → i ≤ j → slice_get trace.segments i ≡ Some s → slice_get trace.segments j ≡ Some t
    → Covers t.time s.time
