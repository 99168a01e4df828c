use Rattle.std.proofs.Common.{sym, subst}
use Rattle.lrc_protocol.specs.Turn.{TurnRecord}
use Rattle.lrc_node_laws.specs.Traced.{CanNoteAct}
use Rattle.lrc_node.specs.declared.fault.NodeFault.TheVariants.{NoMemory}
use Rattle.lrc_node.specs.Effects.{turn_asked, RefusesRun, without_memory}
use Rattle.lrc_node.proofs.Outcomes.{fault_up}
use Rattle.lrc_node.proofs.state.NodeState.run_begun_noting.Goals as goal

pub note-requires : goal.note-requires
note-requires c =
    subst (λ (turn : TurnRecord). CanNoteAct c.run_begun.new.self c.args.trace.now turn.act) (sym c.turn.view_is)
    (c.requires.note c.in_ok-turn.turn c.run_begun.new.self c.in_ok-turn.ensures.done)

pub returns-in_err-note-clause-refused : goal.returns-in_err-note-clause-refused
returns-in_err-note-clause-refused c =
    fault_up c.from_residual-in_err-note.result NoMemory (RefusesRun (turn_asked c.args.self.now c.args.ask))
    c.from_residual-in_err-note.ensures.1 without_memory
