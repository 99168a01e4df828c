-- The states so far are there.
use Rattle.lrc_orders.specs.Kept.{Grows}
use Rattle.lrc_lazy_run.specs.Ways.{AreWays}
use Rattle.lrc_lazy_run.proofs.ways.Ways.go_on.Given as goal

abbrev pub invariant-loop-node : goal.invariant-loop-node
invariant-loop-node l = record {
  ways : AreWays l.sought l.self;
  grows : Grows l.initial.self.states.keys l.self.states.keys;
}
