use Rattle.std.proofs.Common.{◌-◌, ◌∙◌, ap, sym}
use Rattle.std.specs.Prelude.{option_map}
use Rattle.lrc_exec.specs.Ask.{ask_of}
use Rattle.lrc_protocol.specs.Node.{Node}
use Rattle.lrc_protocol.specs.Turn.{begins_of}
use Rattle.lrc_node.specs.Seen.{node_of}
use Rattle.lrc_control.specs.Text.{TextRecord, cost_to_begin}
use Rattle.lrc_node.proofs.Effects.{begun_text}
use Rattle.lrc_node.proofs.state.NodeState.count.Goals as goal

pub begin-requires : goal.begin-requires
begin-requires c =
    ap (λ (node : Node). option_map ask_of (begins_of node.left node.course)) c.self.view_is
    ∙ ap (option_map ask_of) (sym (begun_text c.args.self.now c.args.ask c.requires))
    ∙ c.requires

pub returns : goal.returns
returns c =
    let now = c.args.self.now in
    ap (λ (text : TextRecord). let node : Node = record (node_of c.self.inside) { course = text.course; left = text.left } in node) c.begin.ensures
    ∙ ap (λ (node : Node). record node { left = node.left - cost_to_begin (begins_of node.left node.course) }) c.self.view_is
    ∙ ap (λ begun. record now { left = now.left - cost_to_begin begun }) (sym (begun_text now c.args.ask c.requires))
