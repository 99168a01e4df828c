use Rattle.std.proofs.Common.{◌≢◌, take}
use Rattle.std.specs.Prelude.{Contains}
use Rattle.lrc_trace.specs.Trace.{TraceRecord}
use Rattle.lrc_race.specs.Epochs.{AgreesBetween}
use Rattle.lrc_race.proofs.epochs.agrees_with_all.Given as goal

-- the traces so far agree
abbrev pub invariant-loop-a : goal.invariant-loop-a
invariant-loop-a l = (a : TraceRecord) → Contains (take l.a-index l.fn.traces) a → a.node ≢ l.fn.b.node → AgreesBetween a l.fn.b
