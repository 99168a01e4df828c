use Rattle.lrc_weave.specs.Next.{stamp_of}
use Rattle.lrc_weave.proofs.Heads.{IsBest}
use Rattle.lrc_weave.proofs.order.next_turn.Given as goal

abbrev pub invariant-loop-node : goal.invariant-loop-node
invariant-loop-node l = IsBest (stamp_of l.stamps) l.node l.best
