-- None of the nodes so far can make an act.
use Rattle.lrc_exec.specs.States.{plain_at}
use Rattle.lrc_orders.proofs.Standing.{StillBelow}
use Rattle.lrc_orders.proofs.seen.is_still.Given as goal

abbrev pub invariant-loop-node : goal.invariant-loop-node
invariant-loop-node l = StillBelow (plain_at l.flat l.state) l.node
