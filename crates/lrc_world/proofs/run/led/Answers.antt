use Rattle.std.proofs.Common.{[], refl}
use Rattle.lrc_world.specs.Driven.{schedule_of}
use Rattle.lrc_world.proofs.Runs.{led_alone, worn_alone}
use Rattle.lrc_world.proofs.run.led.Goals as goal

pub returns-clause-run : goal.returns-clause-run
returns-clause-run c =
    led_alone (schedule_of c.args.nodes c.args.lead) c.args.program.now c.args.nodes c.args.options.now {before = []} c.args.keep c.followed.result
    c.followed.ensures.run refl

pub returns-clause-fault : goal.returns-clause-fault
returns-clause-fault c =
    worn_alone (schedule_of c.args.nodes c.args.lead) c.args.program.now c.args.nodes c.args.options.now {before = []} c.followed.result
    c.followed.ensures.fault refl
