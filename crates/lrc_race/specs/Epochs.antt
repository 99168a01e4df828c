-- The epochs of traces, and what is known across barriers.
use Rattle.std.specs.Prelude.{◌≡◌, ◌≢◌, ◌<◌, ◌≤◌, ℕ, List, Some, Contains, slice_get}
use Rattle.lrc_time.specs.Time.{Knows}
use Rattle.lrc_trace.specs.declared.trace.Segment.{Segment}
use Rattle.lrc_trace.specs.Trace.{TraceRecord}

-- a segment of a later epoch than one of the trace knows it
abbrev pub AgreesWith : TraceRecord → Segment → Type 0
AgreesWith a t = (s : Segment) → Contains a.segments s → s.epoch < t.epoch → Knows t.time a.node s.interval

-- each segment of the second trace knows those of earlier epochs of the first
abbrev pub AgreesBetween : TraceRecord → TraceRecord → Type 0
AgreesBetween a b = (t : Segment) → Contains b.segments t → AgreesWith a t

-- of two segments of different nodes and epochs, the later epoch's knows the other
abbrev pub EpochsAgree : List TraceRecord → Type 0
EpochsAgree traces = (a b : TraceRecord) → Contains traces a → Contains traces b → a.node ≢ b.node → AgreesBetween a b

-- no epoch of the trace is lower than an earlier one
abbrev pub EpochsRise : TraceRecord → Type 0
EpochsRise trace = (i j : ℕ) (s t : Segment) → i ≤ j → slice_get trace.segments i ≡ Some s → slice_get trace.segments j ≡ Some t
    → s.epoch ≤ t.epoch

-- the segments of the trace from this number on that are of an earlier epoch are known
abbrev pub AgreesFrom : TraceRecord → Segment → ℕ → Type 0
AgreesFrom a t from = (k : ℕ) (s : Segment) → from ≤ k → slice_get a.segments k ≡ Some s → s.epoch < t.epoch
    → Knows t.time a.node s.interval

-- the segments before this number are known
abbrev pub KnowsBelow : TraceRecord → Segment → ℕ → Type 0
KnowsBelow a t n = (k : ℕ) (s : Segment) → k < n → slice_get a.segments k ≡ Some s → Knows t.time a.node s.interval
