-- Traces of a run.
use Rattle.std.specs.Prelude.{◌≡◌, ◌↔◌, ℕ, true, false, List, Contains, IsTrue}
use Rattle.lrc_trace.specs.declared.act.Act.{Act}
use Rattle.lrc_trace.specs.declared.race.Race.{Race}
use Rattle.lrc_trace.specs.declared.trace.Segment.{Segment}
use Rattle.lrc_trace.specs.Conflict.{Reads, Accesses}
use Rattle.lrc_trace.specs.Interval.{interval_at, IsNamedRace}
use Rattle.lrc_trace.specs.Synchronization.{IsWellSynchronized, WaitsAtBarriers}
use Rattle.lrc_trace.specs.Trace.{TraceRecord, has_access}
use Rattle.lrc_clock.specs.Keeping.{KeepsTime}
use Rattle.lrc_clock.specs.Races.{IsSegmentOf, WritesIn}
use Rattle.lrc_race.specs.Races.{IsRaceOf}

-- the node reads the word in this interval of its own
abbrev pub ReadsIn : List Act → ℕ → ℕ → ℕ → Type 0
ReadsIn run node index word = (i : ℕ) × Reads run i node word × (interval_at run node i ≡ index)

-- a segment of the node's trace is of the interval of the position
pub record HasSegment (run : List Act) (traces : List TraceRecord) (node position : ℕ) : Type 0 where
  pub trace : TraceRecord
  pub segment : Segment
  pub trace_there : Contains traces trace
  pub segment_there : Contains trace.segments segment
  pub node_is : trace.node ≡ node
  pub interval : segment.interval ≡ interval_at run node position

-- The traces are those of the run, of which these are the times:
pub record AreOfRun (run : List Act) (times : List (List ℕ)) (traces : List TraceRecord) : Type 0 where
  -- each segment is of an interval with an access, and has the stamp of the interval,
  pub segments : (a : TraceRecord) (s : Segment) → Contains traces a → Contains a.segments s
      → IsSegmentOf run times a.node s.interval s.time
  -- it has the words that the node writes and reads in the interval,
  pub writes : (a : TraceRecord) (s : Segment) (word : ℕ) → Contains traces a → Contains a.segments s
      → IsTrue (has_access a.size s true word) ↔ WritesIn run a.node s.interval word
  pub reads : (a : TraceRecord) (s : Segment) (word : ℕ) → Contains traces a → Contains a.segments s
      → IsTrue (has_access a.size s false word) ↔ ReadsIn run a.node s.interval word
  -- and there is one for each interval with an access.
  pub all : (i node word : ℕ) → Accesses run i node word → HasSegment run traces node i

-- the races of a run's traces are those that the run names
abbrev pub RacesAreNamed : Type 0
RacesAreNamed = (nodes : ℕ) (run : List Act) (times : List (List ℕ)) (traces : List TraceRecord) → KeepsTime nodes run times
    → IsWellSynchronized nodes run → WaitsAtBarriers run → AreOfRun run times traces
    → (race : Race) → IsRaceOf traces race ↔ IsNamedRace run race
