use Rattle.std.proofs.Common.{◌≡◌, IfErr, IfOk, List, subst}
use Rattle.std.proofs.lemmas.Result.{IfErr-weaker}
use Rattle.lrc_protocol.specs.declared.event.Event.{Event}
use Rattle.lrc_world.specs.Report.{IsWornBy}
use Rattle.lrc_world.specs.Runs.{IsRunBy}
use Rattle.lrc_cli_runs.specs.Runs.{IsLedFault, options_of}
use Rattle.lrc_cli_runs.proofs.RunLemmas.{of_text, played_fault}
use Rattle.lrc_cli_runs.proofs.runs.played.Goals as goal

pub returns-clause-run : goal.returns-clause-run
returns-clause-run c =
    let program = c.args.program.now in
    let nodes = c.args.options.now.nodes.count in
    let options = options_of c.args.options.now in
    let events = c.in_ok-events.events.items in
    of_text program nodes options c.args.keep c.args.text.now events c.in_order.result c.in_ok-events.ensures.ok
    (subst (λ (given : List Event). IfOk c.in_order.result (IsRunBy (λ events. events ≡ given) program nodes options c.args.keep))
    c.deref.ensures.value c.in_order.ensures.run)

pub returns-clause-err : goal.returns-clause-err
returns-clause-err c =
    let program = c.args.program.now in
    let nodes = c.args.options.now.nodes.count in
    let options = options_of c.args.options.now in
    let events = c.in_ok-events.events.items in
    IfErr-weaker c.in_order.result _ _ (played_fault program c.args.options.now c.args.text.now events c.in_ok-events.ensures.ok)
    (subst (λ (given : List Event). IfErr c.in_order.result (IsLedFault (IsWornBy program nodes options given)))
    c.deref.ensures.value c.in_order.ensures.err)
