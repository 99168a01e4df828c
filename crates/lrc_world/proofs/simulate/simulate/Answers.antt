use Rattle.std.proofs.Common.{subst}
use Rattle.lrc_world.specs.Promises.{AreKept}
use Rattle.lrc_world.specs.Report.{IsReportOf}
use Rattle.lrc_world.proofs.Runs.{ran, report_of}
use Rattle.lrc_world.proofs.simulate.simulate.Goals as goal

pub returns-in-Ok-clause-report : goal.returns-in-Ok-clause-report
returns-in-Ok-clause-report c =
    let is = ran c.run_checked.result c.in-Ok.run' _ c.in-Ok.is c.run_checked.ensures.run in
    subst (λ events. IsReportOf c.args.program.now c.args.nodes c.args.options.now events c.in-Ok.run'.report) is.events
    (report_of _ c.args.program.now c.args.nodes c.args.options.now c.in-Ok.run' is)

pub returns-in-Ok-clause-races : goal.returns-in-Ok-clause-races
returns-in-Ok-clause-races c = (ran c.run_checked.result c.in-Ok.run' _ c.in-Ok.is c.run_checked.ensures.run).races

pub returns-in-Ok-clause-kept : goal.returns-in-Ok-clause-kept
returns-in-Ok-clause-kept c =
    let is = ran c.run_checked.result c.in-Ok.run' _ c.in-Ok.is c.run_checked.ensures.run in
    subst (λ events. AreKept c.args.program.now c.args.nodes c.args.options.now events c.in-Ok.run'.report.acts.items c.in-Ok.run'.report.ends.items)
    is.events is.kept
