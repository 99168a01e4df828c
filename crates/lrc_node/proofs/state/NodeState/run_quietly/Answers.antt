use Rattle.std.proofs.Common.{◌∙◌, ap}
use Rattle.lrc_exec.specs.declared.machine.Ask.TheVariants.{Quiet}
use Rattle.lrc_protocol.specs.Node.{Node}
use Rattle.lrc_control.specs.Text.{asked_in}
use Rattle.lrc_node.proofs.Effects.{begins_asked}
use Rattle.lrc_node.proofs.state.NodeState.run_quietly.Goals as goal

pub go_on_quietly-requires : goal.go_on_quietly-requires
go_on_quietly-requires c = ap (λ (n : Node). asked_in n.course) c.count.ensures ∙ begins_asked c.args.self.now Quiet c.requires
