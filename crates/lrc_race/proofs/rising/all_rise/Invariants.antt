use Rattle.std.proofs.Common.{take}
use Rattle.std.specs.Prelude.{Contains}
use Rattle.lrc_trace.specs.Trace.{TraceRecord}
use Rattle.lrc_race.specs.Races.{RisesAlong}
use Rattle.lrc_race.proofs.rising.all_rise.Given as goal

-- the times of the traces so far rise
abbrev pub invariant-loop-trace : goal.invariant-loop-trace
invariant-loop-trace l = (a : TraceRecord) → Contains (take l.trace-index l.traces) a → RisesAlong a
