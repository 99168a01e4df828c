-- What comes of a message that a node is to take.
use Rattle.lrc_protocol.specs.Node.{Node}
use Rattle.lrc_protocol.specs.Turn.{Outcome, unexpected, worn}
use Rattle.lrc_node.specs.declared.fault.NodeFault.{NodeFault}
use Rattle.lrc_node.specs.declared.fault.NodeFault.TheVariants.{Unexpected, Worn, NoMemory}

-- Why a message is not taken, by what would come of it: it is not expected, and nothing changes; a number would be too
-- large; or no memory is left.
pub data RefusesTake : Outcome → Node → NodeFault → Node → Type 0 where
  unawaited : {node : Node} → RefusesTake unexpected node Unexpected node
  too_large : {node after : Node} → RefusesTake worn node Worn after
  without_memory : {outcome : Outcome} {node after : Node} → RefusesTake outcome node NoMemory after
