-- The walk stands at a state that is there.
use Rattle.std.proofs.Common.{◌+◌, ◌-◌, ◌<◌, length}
use Rattle.lrc_orders.specs.Kept.{Grows}
use Rattle.lrc_lazy_run.specs.Ways.{AreWays}
use Rattle.lrc_lazy_run.proofs.ways.Ways.settle.Given as goal

abbrev pub invariant-loop-node : goal.invariant-loop-node
invariant-loop-node l = record {
  ways : AreWays l.sought l.self;
  grows : Grows l.initial.self.states.keys l.self.states.keys;
  within : l.at < length l.self.states.keys;
  room : length l.self.settled.items < length l.self.states.keys;
}

abbrev pub decreases-loop-node : goal.decreases-loop-node
decreases-loop-node l = l.sought.most + 1 - length l.self.states.keys
