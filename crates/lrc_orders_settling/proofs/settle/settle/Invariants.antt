-- The nodes so far have settled.
use Rattle.lrc_orders_settling.proofs.StepsSoFar.{SettlingSo}
use Rattle.lrc_orders_settling.proofs.settle.settle.Given as goal

abbrev pub invariant-loop-node : goal.invariant-loop-node
invariant-loop-node l = SettlingSo l.flat l.initial.state l.state l.first l.node l.last l.initial.acts.items l.acts.items
