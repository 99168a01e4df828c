-- How a node is kept, and how it is seen.
use Rattle.lrc_protocol.specs.Node.{Node}
use Rattle.lrc_node.specs.declared.state.NodeState.TheInside.{Inside}
use Rattle.lrc_node.specs.State.{IsState}

-- what is kept, as the protocol has it
abbrev pub node_of : Inside → Node
node_of s = record {
  setting = record { words = s.words; locks = s.locks; me = s.me; nodes = s.nodes };
  options = s.options;
  course = s.text.course;
  left = s.text.left;
  locks = s.clock;
  barrier = s.barrier;
  memory = s.memory.memory;
  mail = s.mail;
}

-- what holds of it
abbrev pub IsNodeKept : Inside → Type 0
IsNodeKept s = IsState s.memory.me s.memory.size (node_of s)
