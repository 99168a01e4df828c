use Rattle.std.proofs.Common.{◌∙◌, List, ap}
use Rattle.lrc_protocol.specs.declared.event.Event.{Event}
use Rattle.lrc_events.specs.Writing.{events_text}
use Rattle.lrc_exact_text.proofs.events.events_shown.Goals as goal

pub returns : goal.returns
returns c = record {
  events = c.in_ok-events.events.items;
  makes = c.in_ok-events.ensures;
  is = c.in_ok-text.ensures ∙ ap (λ (l : List Event). events_text l) c.deref.ensures.value;
}
