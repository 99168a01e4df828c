-- The nodes so far have departed.
use Rattle.lrc_orders_settling.proofs.Departing.{Departing}
use Rattle.lrc_orders_settling.proofs.step.depart.Given as goal

abbrev pub invariant-loop-node : goal.invariant-loop-node
invariant-loop-node l = Departing l.flat l.initial.state l.state l.node l.initial.acts.items l.acts.items
