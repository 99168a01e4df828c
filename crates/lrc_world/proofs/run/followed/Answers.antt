use Rattle.std.proofs.Common.{subst}
use Rattle.std.proofs.lemmas.Result.{IfErr-weaker, IfOk-weaker}
use Rattle.lrc_world.specs.Driven.{schedule_of}
use Rattle.lrc_world.specs.Report.{IsWornFault}
use Rattle.lrc_world.specs.Runs.{AreFollowed, IsRunBy, ShowsRun, WearsOutBehind}
use Rattle.lrc_world.proofs.run.followed.Goals as goal

pub led_on-requires-clause-shown : goal.led_on-requires-clause-shown
led_on-requires-clause-shown c = (
  c.args.options.now,
  subst (λ program. ShowsRun c.args.keep program c.args.nodes c.args.options.now c.args.before.now c.in_ok-world.world) c.in_ok-code.ensures
      c.in_ok-world.ensures.shown,
)

pub returns-clause-run : goal.returns-clause-run
returns-clause-run c =
    let shown = subst (λ program. ShowsRun c.args.keep program c.args.nodes c.args.options.now c.args.before.now c.in_ok-world.world) c.in_ok-code.ensures
    c.in_ok-world.ensures.shown in
    IfOk-weaker c.led_on.result _ (IsRunBy (AreFollowed (schedule_of c.args.nodes c.args.lead) c.args.before.now c.args.program.now c.args.nodes
    c.args.options.now) c.args.program.now c.args.nodes c.args.options.now c.args.keep)
    (λ run made. made c.args.options.now shown) c.led_on.ensures.run

pub returns-clause-fault : goal.returns-clause-fault
returns-clause-fault c =
    let shown = subst (λ program. ShowsRun c.args.keep program c.args.nodes c.args.options.now c.args.before.now c.in_ok-world.world) c.in_ok-code.ensures
    c.in_ok-world.ensures.shown in
    IfErr-weaker c.led_on.result _ (IsWornFault (WearsOutBehind (schedule_of c.args.nodes c.args.lead) c.args.before.now c.args.program.now c.args.nodes
    c.args.options.now))
    (λ fault wears. wears c.args.options.now shown) c.led_on.ensures.fault
