-- Every turn is some changes one after another.
use Rattle.lrc_protocol.specs.Node.{Node}
use Rattle.lrc_protocol.specs.Turn.{Outcome, done, not_ready, unexpected, worn, taking}
use Rattle.lrc_protocol.specs.Run.{Input, outcome_of}
use Rattle.lrc_order_laws.proofs.TextHolds.{TextIs}
use Rattle.lrc_order_laws.proofs.Sends.{by_itself, comes}
use Rattle.lrc_node_laws.proofs.Change.{View, view_of, Walk, goes, receives}
use Rattle.lrc_node_laws.proofs.Turning.{Turning, alone, again, anew, TurningIf, turning, played-walk}

module _ (start : View) where
  -- a node at which these changes have come
  abbrev At : Node → Type 0
  At node = Walk start (view_of node)

  abbrev pub AtEnd : Outcome → Type 0
  AtEnd (done turn after) = At after
  AtEnd not_ready = Unit {0}
  AtEnd unexpected = Unit {0}
  AtEnd worn = Unit {0}

  turned-at : (node : Node) (input : Input) (after : Node) → Turning node input after → At node → At after
  turned-at node _ after (alone p) at = played-walk by_itself start (view_of node) (view_of after) p at
  turned-at node _ _ (again e is) at = at
  turned-at node _ after (anew e new x p) at =
      played-walk (comes e.from e.message) start (view_of (taking node e)) (view_of after) p (goes at (receives e.from _))

  end-at : (node : Node) (input : Input) (o : Outcome) → TurningIf node input o → At node → AtEnd o
  end-at node input (done turn after) t at = turned-at node input after t at
  end-at node input not_ready t at = tt
  end-at node input unexpected t at = tt
  end-at node input worn t at = tt

  -- each input leads on by changes, or is no turn
  pub turn-at : (node : Node) (input : Input) → TextIs node.setting node.course → At node → AtEnd (outcome_of node input)
  turn-at node input text at = end-at node input (outcome_of node input) (turning node input text) at
