use Rattle.std.proofs.Common.{◌∙◌, sym, subst, map, rules}
use Rattle.std.proofs.lemmas.List.{length-map}
use Rattle.lrc_weave.specs.Sent.{AreTakesSent}
use Rattle.lrc_weave.specs.Whole.{MakesRun}
use Rattle.lrc_weave.specs.Woven.{AreWoven}
use Rattle.lrc_weave.proofs.Paired.{sent_where_alike}
use Rattle.lrc_weave.proofs.woven.woven_run.Goals as goal

pub returns-in-Ok-clause-woven : goal.returns-in-Ok-clause-woven
returns-in-Ok-clause-woven c = λ program nodes options are.
    let logs = map (λ log. log.items) c.args.logs.now in
    let sources : AreTakesSent logs =
    sent_where_alike logs c.args.wires.now (c.in_ok-are_alike.ensures.0 (search rules))
    (c.requires.each ∙ sym (length-map c.args.logs.now (λ log. log.items))) in
    let w = c.in-Ok.ensures.woven program nodes options are sources in
    (w.0, subst (λ events. AreWoven logs events.items w.0) (sym c.whole.ensures.events) w.1)

pub returns-in-Ok-clause-makes : goal.returns-in-Ok-clause-makes
returns-in-Ok-clause-makes c = λ program nodes options are.
    let logs = map (λ log. log.items) c.args.logs.now in
    let run = c.whole.result in
    let sources : AreTakesSent logs =
    sent_where_alike logs c.args.wires.now (c.in_ok-are_alike.ensures.0 (search rules))
    (c.requires.each ∙ sym (length-map c.args.logs.now (λ log. log.items))) in
    subst (λ events. MakesRun program nodes options logs events.items run.acts.items run.in_flight) (sym c.whole.ensures.events)
    (subst (λ acts. MakesRun program nodes options logs c.in-Ok.run'.events.items acts.items run.in_flight) (sym c.whole.ensures.acts)
    (subst (MakesRun program nodes options logs c.in-Ok.run'.events.items c.in-Ok.run'.acts.items) (sym c.whole.ensures.flight)
    (c.in-Ok.ensures.makes program nodes options are sources)))
