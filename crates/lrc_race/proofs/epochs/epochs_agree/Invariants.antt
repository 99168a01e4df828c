use Rattle.std.proofs.Common.{◌≢◌, take}
use Rattle.std.specs.Prelude.{Contains}
use Rattle.lrc_trace.specs.Trace.{TraceRecord}
use Rattle.lrc_race.specs.Epochs.{AgreesBetween}
use Rattle.lrc_race.proofs.epochs.epochs_agree.Given as goal

-- the traces so far agree with the others
abbrev pub invariant-loop-b : goal.invariant-loop-b
invariant-loop-b l = (b : TraceRecord) → Contains (take l.b-index l.fn.traces) b
    → (a : TraceRecord) → Contains l.fn.traces a → a.node ≢ b.node → AgreesBetween a b
