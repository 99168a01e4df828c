-- What the nodes so far lead to is there.
use Rattle.std.proofs.Common.{◌<◌, ℕ}
use Rattle.lrc_orders.specs.Kept.{Grows}
use Rattle.lrc_lazy_run.specs.Ways.{AreWays, HasAllStepsAt}
use Rattle.lrc_lazy_run.proofs.ways.Ways.add_all.Given as goal

abbrev pub invariant-loop-node : goal.invariant-loop-node
invariant-loop-node l = record {
  ways : AreWays l.sought l.self;
  grows : Grows l.initial.self.states.keys l.self.states.keys;
  done : (n : ℕ) → n < l.node → HasAllStepsAt l.sought.flat l.self.states.keys l.place n;
}
