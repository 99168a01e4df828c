use Rattle.std.proofs.Common.{IfErr, IfOk, List, subst}
use Rattle.std.proofs.lemmas.Result.{IfErr-weaker}
use Rattle.lrc_protocol.specs.declared.event.Event.{Event}
use Rattle.lrc_world.specs.declared.lead.Lead.{Lead}
use Rattle.lrc_world.specs.Driven.{schedule_of}
use Rattle.lrc_world.specs.Runs.{AreFollowed, IsRunBy, WearsOutBehind}
use Rattle.lrc_cli_runs.specs.Runs.{IsLedFault, options_of}
use Rattle.lrc_cli_runs.proofs.RunLemmas.{followed_fault, of_text_followed}
use Rattle.lrc_cli_runs.proofs.runs.followed.Goals as goal

pub returns-clause-run : goal.returns-clause-run
returns-clause-run c =
    let program = c.args.program.now in
    let nodes = c.args.options.now.nodes.count in
    let options = options_of c.args.options.now in
    let events = c.in_ok-events.events.items in
    of_text_followed program c.args.options.now c.args.keep c.args.text.now c.args.next events c.in_order.result c.in_ok-events.ensures.ok
    (subst (λ (lead : Lead). IfOk c.in_order.result (IsRunBy (AreFollowed (schedule_of nodes lead) events program nodes options) program nodes options c.args.keep))
    c.lead_of.ensures
    (subst (λ (given : List Event). IfOk c.in_order.result
    (IsRunBy (AreFollowed (schedule_of nodes c.lead_of.result) given program nodes options) program nodes options c.args.keep))
    c.deref.ensures.value c.in_order.ensures.run))

pub returns-clause-err : goal.returns-clause-err
returns-clause-err c =
    let program = c.args.program.now in
    let nodes = c.args.options.now.nodes.count in
    let options = options_of c.args.options.now in
    let events = c.in_ok-events.events.items in
    IfErr-weaker c.in_order.result _ _ (followed_fault program c.args.options.now c.args.text.now c.args.next events c.in_ok-events.ensures.ok)
    (subst (λ (lead : Lead). IfErr c.in_order.result (IsLedFault (WearsOutBehind (schedule_of nodes lead) events program nodes options))) c.lead_of.ensures
    (subst (λ (given : List Event). IfErr c.in_order.result
    (IsLedFault (WearsOutBehind (schedule_of nodes c.lead_of.result) given program nodes options)))
    c.deref.ensures.value c.in_order.ensures.err))
