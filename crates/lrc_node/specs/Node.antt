-- What a caller sees of a node.
use Rattle.std.specs.Prelude.{Bool, true, false, Option, Some, None, option_and_then, option_map, unwrap_or}
use Rattle.lrc_exec.specs.declared.machine.Ask.{Ask}
use Rattle.lrc_exec.specs.Ask.{ask_of}
use Rattle.lrc_trace.specs.Trace.{TraceRecord}
use Rattle.lrc_protocol.specs.Node.{Node}
use Rattle.lrc_protocol.specs.Turn.{Outcome, begins, done, not_ready, unexpected, worn}
use Rattle.lrc_trace.specs.declared.end.End.{End}
use Rattle.lrc_control.specs.Text.{end_of}
use Rattle.lrc_node.specs.declared.fault.NodeFault.{NodeFault}
use Rattle.lrc_node.specs.declared.fault.NodeFault.TheVariants.{NotReady, Unexpected, Worn, NoMemory}

-- A node as the protocol has it, none once it has failed. Of one that has failed it is known how it had ended.
abbrev pub seen_node : Option End → Node → Option Node
seen_node None node = Some node
seen_node (Some end) node = None

-- how it ended, so far
abbrev pub seen_end : Option End → Node → End
seen_end failed node = unwrap_or failed (end_of node.course)

-- what is seen of it: the node, the trace of the accesses that it made, and how it ended, so far
pub record TracedNode : Type 0 where
  pub node : Option Node
  pub trace : TraceRecord
  pub end : End

-- a node that has not failed, with its trace
abbrev pub sound_node : Node → TraceRecord → TracedNode
sound_node node trace = record { node = Some node; trace = trace; end = end_of node.course }

-- what a node begins if it is named; a failed one begins nothing
abbrev pub wish_of : Option Node → Option Ask
wish_of node = option_and_then (λ n. option_map ask_of (begins n)) node

-- whether an input is a turn, as long as no number is too large: the node is ready, or expects the message
abbrev pub is_turn : Outcome → Bool
is_turn (done turn node) = true
is_turn not_ready = false
is_turn unexpected = false
is_turn worn = true

-- What comes of a turn that is asked of a node: it is made; it is refused, and the node is as it was; or the node fails.
pub data AnswersTurn : Outcome → Node → NodeFault → Option Node → Type 0 where
  unready : {node : Node} → AnswersTurn not_ready node NotReady (Some node)
  unawaited : {node : Node} → AnswersTurn unexpected node Unexpected (Some node)
  too_large : {node : Node} → AnswersTurn worn node Worn None
  without_memory : {outcome : Outcome} {node : Node} → AnswersTurn outcome node NoMemory None
