use Rattle.std.proofs.Common.{◌∙◌, List, ap, subst}
use Rattle.lrc_protocol.specs.declared.event.Event.{Event}
use Rattle.lrc_protocol.specs.Node.{OptionsRecord}
use Rattle.lrc_events.specs.Writing.{events_text}
use Rattle.lrc_along.specs.Along.{LeadsAlong}
use Rattle.lrc_explore_events_text.proofs.showing.events_shown.Goals as goal

pub returns : goal.returns
returns c =
    let events = c.in_ok-events.events.items in
    record {
      events = events;
      leads = subst (λ (o : OptionsRecord). LeadsAlong c.args.program.now c.args.nodes o c.args.acts.now events) c.bare_options.ensures c.in_ok-events.ensures;
      is = c.in_ok-text.ensures ∙ ap (λ (l : List Event). events_text l) c.deref.ensures.value;
    }
