use Rattle.std.proofs.Common.{◌≡◌, ℕ, [], List, subst, rules, arith, take}
use Rattle.std.proofs.lemmas.Result.{IfOk-from_err}
use Rattle.lrc_program.specs.declared.Program.{Program}
use Rattle.lrc_protocol.specs.declared.event.Event.{Event}
use Rattle.lrc_protocol.specs.Node.{OptionsRecord}
use Rattle.lrc_world.specs.declared.keep.Keep.{Keep}
use Rattle.lrc_world.specs.declared.report.TurnFault.{TurnFault}
use Rattle.lrc_world.specs.declared.world.World.{World}
use Rattle.lrc_world.specs.Report.{IsWornBy, IsWornFault}
use Rattle.lrc_world.specs.Runs.{ShowsRun}
use Rattle.lrc_world.proofs.Events.{goes_on, faults_at, fault_up, take_whole, get_at}
use Rattle.lrc_world.proofs.run.played.Goals as goal

-- why no world shows these events
abbrev IsWorn : World → List Event → TurnFault → Type 0
IsWorn start events fault = (keep : Keep) (program : Program) (nodes : ℕ) (options : OptionsRecord)
    → ShowsRun keep program nodes options [] start → IsWornFault (IsWornBy program nodes options events) fault

pub loop-event-init : goal.loop-event-init
loop-event-init c = λ keep program nodes options shown. shown

pub loop-event-preserved : goal.loop-event-preserved
loop-event-preserved c = λ keep program nodes options shown.
    goes_on program nodes options c.args.events.now c.loop-event.event-index _
    (get_at c.args.events.now c.loop-event.event-index _ (omega (arith, c.loop-event-test.true)))
    keep c.loop-event.world c.play.new.self c.play.result c.in_ok-play.field-0 (c.loop-event.invariant keep program nodes options shown)
    c.play.ensures.plays c.play.ensures.turned (search rules)

pub returns-clause-shown : goal.returns-clause-shown
returns-clause-shown c = λ keep program nodes options shown.
    let all : take c.loop-event.event-index c.args.events.now ≡ c.args.events.now =
    take_whole c.args.events.now c.loop-event.event-index (omega (arith, c.loop-event-test.false)) in
    subst (λ events. ShowsRun keep program nodes options events c.loop-event.world) all (c.loop-event.invariant keep program nodes options shown)

pub returns-in_err-play-clause-shown : goal.returns-in_err-play-clause-shown
returns-in_err-play-clause-shown c = IfOk-from_err c.from_residual.result _ c.from_residual.ensures.0

pub returns-in_err-play-clause-fault : goal.returns-in_err-play-clause-fault
returns-in_err-play-clause-fault c =
    fault_up c.from_residual.result c.in_err-play.field-0.0 (IsWorn c.args.world c.args.events.now) c.from_residual.ensures.1
    (λ keep program nodes options shown. faults_at program nodes options c.args.events.now c.loop-event.event-index _
    (get_at c.args.events.now c.loop-event.event-index _ (omega (arith, c.loop-event-test.true)))
    keep c.loop-event.world c.play.new.self c.in_err-play.field-0.0 (c.loop-event.invariant keep program nodes options shown) c.in_err-play.ensures.plays)
