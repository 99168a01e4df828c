-- With which faults a node fails, and which input each refusal is of.
use Rattle.std.specs.Prelude.{Bool, true, false}
use Rattle.lrc_protocol.specs.Run.{Input, run, taken}
use Rattle.lrc_node.specs.declared.fault.NodeFault.{NodeFault}
use Rattle.lrc_node.specs.declared.fault.NodeFault.TheVariants.{Failed, NotReady, Unexpected, Worn, NoMemory}

abbrev pub is_final : NodeFault → Bool
is_final Failed = false
is_final NotReady = false
is_final Unexpected = false
is_final Worn = true
is_final NoMemory = true

-- only a node that is to go on by itself is not ready, and only a message is not expected
abbrev pub MayAnswer : Input → NodeFault → Type 0
MayAnswer run Unexpected = ⊥
MayAnswer (taken envelope) NotReady = ⊥
MayAnswer input fault = Unit {0}
