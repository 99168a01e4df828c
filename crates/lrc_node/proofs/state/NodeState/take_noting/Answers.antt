use Rattle.std.proofs.Common.{sym, subst}
use Rattle.lrc_protocol.specs.Turn.{TurnRecord, take_turn}
use Rattle.lrc_protocol.specs.Run.{taken}
use Rattle.lrc_node_laws.specs.Traced.{CanNoteAct}
use Rattle.lrc_node_laws.proofs.Noting.{can_note_turn}
use Rattle.lrc_node.specs.declared.fault.NodeFault.TheVariants.{NoMemory}
use Rattle.lrc_node.specs.Taken.{RefusesTake, without_memory}
use Rattle.lrc_node.proofs.Outcomes.{fault_up}
use Rattle.lrc_node.proofs.state.NodeState.take_noting.Goals as goal

pub note-requires : goal.note-requires
note-requires c =
    subst (λ (turn : TurnRecord). CanNoteAct c.take.new.self c.args.trace.now turn.act) (sym c.turn.view_is)
    (can_note_turn c.args.self.now c.args.trace.now (taken c.args.envelope.now) c.in_ok-turn.turn c.take.new.self c.requires c.in_ok-turn.ensures.done)

pub returns-in_err-note-clause-refused : goal.returns-in_err-note-clause-refused
returns-in_err-note-clause-refused c =
    fault_up c.from_residual-in_err-note.result NoMemory
    (λ fault. RefusesTake (take_turn c.args.self.now c.args.envelope.now) c.args.self.now fault c.take.new.self)
    c.from_residual-in_err-note.ensures.1 without_memory
