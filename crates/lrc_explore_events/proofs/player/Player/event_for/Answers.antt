use Rattle.std.proofs.Common.{◌∙◌, List, ap, sym}
use Rattle.std.specs.Prelude.{option_map, position}
use Rattle.std.proofs.lemmas.Result.{IfOk-weaker}
use Rattle.lrc_envelope.specs.Envelope.{EnvelopeRecord}
use Rattle.lrc_protocol.specs.declared.event.Event.TheVariants.{Deliver}
use Rattle.lrc_along.specs.Due.{may_come}
use Rattle.lrc_explore_events.proofs.Turning.{event_alone, event_delivered}
use Rattle.lrc_explore_events.proofs.player.Player.event_for.Goals as goal

pub returns-then-needs_message : goal.returns-then-needs_message
returns-then-needs_message c = λ program nodes world is.
    let needs = sym (c.needs_message.ensures program nodes world is) ∙ c.if-needs_message.true in
    let act = c.args.act in
    IfOk-weaker c.delivery.result _ _
    (λ event so. so ∙ ap (λ (l : List EnvelopeRecord). option_map Deliver (position (may_come act.node) l)) is.replay.flight ∙ event_delivered world act needs)
    c.delivery.ensures

pub returns-else-needs_message : goal.returns-else-needs_message
returns-else-needs_message c = λ program nodes world is.
    let needs = sym (c.needs_message.ensures program nodes world is) ∙ c.if-needs_message.false in
    c.going_on.ensures program nodes world is ∙ event_alone world c.args.act needs
