use Rattle.std.proofs.Common.{◌∙◌, [], sym, refl}
use Rattle.std.proofs.lemmas.Result.{IfErr-weaker, IfOk-from_err, IfOk-weaker}
use Rattle.lrc_protocol.specs.Run.{fresh_world}
use Rattle.lrc_world.specs.declared.report.TurnFault.TheVariants.{NoMemory}
use Rattle.lrc_world.specs.Report.{IsWornBy, IsWornFault}
use Rattle.lrc_world.specs.Runs.{ShowsRun}
use Rattle.lrc_world.proofs.Events.{fault_up}
use Rattle.lrc_world.proofs.Noted.{kept_none}
use Rattle.lrc_world.proofs.run.world_after.Goals as goal

pub returns-clause-shown : goal.returns-clause-shown
returns-clause-shown c =
    let start : ShowsRun c.args.keep c.args.code.now c.args.nodes c.args.options.now [] c.in_ok-world.world = (
      fresh_world c.args.code.now c.args.nodes c.args.options.now,
      refl,
      c.in_ok-world.ensures.shows,
      c.in_ok-world.ensures.turned ∙ sym (kept_none c.args.keep),
    ) in
    IfOk-weaker c.played.result _ (ShowsRun c.args.keep c.args.code.now c.args.nodes c.args.options.now c.args.events.now)
    (λ after shows. shows c.args.keep c.args.code.now c.args.nodes c.args.options.now start) c.played.ensures.shown

pub returns-clause-fault : goal.returns-clause-fault
returns-clause-fault c =
    let start : ShowsRun c.args.keep c.args.code.now c.args.nodes c.args.options.now [] c.in_ok-world.world = (
      fresh_world c.args.code.now c.args.nodes c.args.options.now,
      refl,
      c.in_ok-world.ensures.shows,
      c.in_ok-world.ensures.turned ∙ sym (kept_none c.args.keep),
    ) in
    IfErr-weaker c.played.result _ (IsWornFault (IsWornBy c.args.code.now c.args.nodes c.args.options.now c.args.events.now))
    (λ fault wears. wears c.args.keep c.args.code.now c.args.nodes c.args.options.now start) c.played.ensures.fault

pub returns-in_err-world-clause-shown : goal.returns-in_err-world-clause-shown
returns-in_err-world-clause-shown c = IfOk-from_err c.from_residual.result _ c.from_residual.ensures.0

pub returns-in_err-world-clause-fault : goal.returns-in_err-world-clause-fault
returns-in_err-world-clause-fault c =
    fault_up c.from_residual.result NoMemory
    (IsWornFault (IsWornBy c.args.code.now c.args.nodes c.args.options.now c.args.events.now)) c.from_residual.ensures.1 tt
