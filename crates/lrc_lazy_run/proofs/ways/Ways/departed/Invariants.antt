-- The place so far is that of a state that is there.
use Rattle.std.proofs.Common.{◌<◌, length}
use Rattle.std.specs.Prelude.{IfSome}
use Rattle.lrc_orders.specs.Kept.{Grows}
use Rattle.lrc_lazy_run.specs.Ways.{AreWays}
use Rattle.lrc_lazy_run.proofs.ways.Ways.departed.Given as goal

abbrev pub invariant-loop-node : goal.invariant-loop-node
invariant-loop-node l = record {
  ways : AreWays l.sought l.self;
  grows : Grows l.initial.self.states.keys l.self.states.keys;
  there : IfSome l.at (λ at. (at < length l.self.states.keys) × (length l.self.settled.items < length l.self.states.keys));
}
