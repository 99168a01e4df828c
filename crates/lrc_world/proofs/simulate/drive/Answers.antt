use Rattle.std.proofs.Common.{◌≡◌, ◌∙◌, Err, ap}
use Rattle.lrc_protocol.specs.Run.{fresh_world}
use Rattle.lrc_world.specs.declared.report.SimFault.TheVariants.{Worn}
use Rattle.lrc_world.specs.Rounds.{schedule_of_rounds}
use Rattle.lrc_world.proofs.Driven.{worn_by}
use Rattle.lrc_world.proofs.Runs.{ran, report_of}
use Rattle.lrc_world.proofs.simulate.drive.Goals as goal

pub returns-in-Ok-clause-report : goal.returns-in-Ok-clause-report
returns-in-Ok-clause-report c =
    report_of _ c.args.program.now c.args.nodes c.args.options.now c.in-Ok.run' (ran c.run_checked.result c.in-Ok.run' _ c.in-Ok.is c.run_checked.ensures.run)

pub returns-in-Ok-clause-rounds : goal.returns-in-Ok-clause-rounds
returns-in-Ok-clause-rounds c = (ran c.run_checked.result c.in-Ok.run' _ c.in-Ok.is c.run_checked.ensures.run).events.led

pub returns-in-Ok-clause-unskipped : goal.returns-in-Ok-clause-unskipped
returns-in-Ok-clause-unskipped c = (ran c.run_checked.result c.in-Ok.run' _ c.in-Ok.is c.run_checked.ensures.run).events.unskipped

pub returns-in-Ok-clause-races : goal.returns-in-Ok-clause-races
returns-in-Ok-clause-races c = (ran c.run_checked.result c.in-Ok.run' _ c.in-Ok.is c.run_checked.ensures.run).races

pub returns-in-Ok-clause-kept : goal.returns-in-Ok-clause-kept
returns-in-Ok-clause-kept c = (ran c.run_checked.result c.in-Ok.run' _ c.in-Ok.is c.run_checked.ensures.run).kept

pub returns-in-Ok-clause-few : goal.returns-in-Ok-clause-few
returns-in-Ok-clause-few c = (ran c.run_checked.result c.in-Ok.run' _ c.in-Ok.is c.run_checked.ensures.run).events.few

pub returns-in-Ok-clause-over : goal.returns-in-Ok-clause-over
returns-in-Ok-clause-over c = (ran c.run_checked.result c.in-Ok.run' _ c.in-Ok.is c.run_checked.ensures.run).events.over

pub returns-in-Err-clause-worn : goal.returns-in-Err-clause-worn
returns-in-Err-clause-worn c = λ e.
    worn_by (schedule_of_rounds c.args.picker c.args.nodes) (fresh_world c.args.program.now c.args.nodes c.args.options.now)
    (c.run_checked.ensures.worn (let same : c.in-Err.fault ≡ Worn = cc in c.in-Err.is ∙ ap Err same))
