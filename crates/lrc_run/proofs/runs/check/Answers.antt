use Rattle.lrc_world.proofs.Ranges.{nodes_in_range, steps_in_range}
use Rattle.lrc_run.proofs.runs.check.Goals as goal

pub returns-in-Ok : goal.returns-in-Ok
returns-in-Ok c =
    let setting = c.in-Ok.setting in (
      c.in-Ok.ensures.0,
      c.in-Ok.ensures.1,
      nodes_in_range setting c.args.nodes c.args.options.now c.in-Ok.ensures.0 c.in-Ok.ensures.1,
      steps_in_range setting c.args.nodes c.args.options.now c.in-Ok.ensures.0 c.in-Ok.ensures.1,
    )
