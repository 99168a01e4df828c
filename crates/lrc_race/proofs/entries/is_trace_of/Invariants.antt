use Rattle.std.proofs.Common.{◌≡◌, length, take}
use Rattle.std.specs.Prelude.{Contains}
use Rattle.lrc_trace.specs.declared.trace.Segment.{Segment}
use Rattle.lrc_race.proofs.entries.is_trace_of.Given as goal

-- the times so far have as many entries
abbrev pub invariant-loop-segment : goal.invariant-loop-segment
invariant-loop-segment l = (s : Segment) → Contains (take l.segment-index l.fn.trace.segments) s → length s.time ≡ l.fn.nodes
