use Rattle.lrc_node.specs.Options.{options_of}
use Rattle.lrc_run.proofs.Halting.{refused_so}
use Rattle.lrc_run.proofs.failure.halt_at.Goals as goal

pub returns-in-Closed : goal.returns-in-Closed
returns-in-Closed c = λ picker left_so.
    let program = c.args.program.now in
    let nodes = c.args.setting.now.nodes.count in
    let options = options_of c.args.setting.now in
    refused_so program nodes options picker c.args.left c.args.failure left_so c.requires.first c.in-Closed.is
