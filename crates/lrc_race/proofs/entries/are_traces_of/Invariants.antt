use Rattle.std.proofs.Common.{take}
use Rattle.std.specs.Prelude.{Contains}
use Rattle.lrc_trace.specs.Trace.{TraceRecord}
use Rattle.lrc_race.specs.Races.{IsTraceOf}
use Rattle.lrc_race.proofs.entries.are_traces_of.Given as goal

-- the traces so far are such traces
abbrev pub invariant-loop-trace : goal.invariant-loop-trace
invariant-loop-trace l = (a : TraceRecord) → Contains (take l.trace-index l.fn.traces) a → IsTraceOf l.fn.nodes a
