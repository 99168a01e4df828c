-- The nodes so far can do nothing.
use Rattle.std.proofs.Common.{◌<◌, ℕ}
use Rattle.lrc_trace.specs.declared.act.Deed.{Deed}
use Rattle.lrc_lazy_run.specs.Ways.{CanMakeAt}
use Rattle.lrc_lazy_run.proofs.ways.Ways.is_still_at.Given as goal

abbrev pub invariant-loop-node : goal.invariant-loop-node
invariant-loop-node l = (n : ℕ) (deed : Deed) → n < l.node → ¬ CanMakeAt l.sought.flat l.self.states.keys l.place n deed
