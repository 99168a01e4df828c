-- The first line is behind, and has an event or none, or it is not.
use Rattle.std.proofs.Common.{◌∙◌, List, subst, sym, true≢false}
use Rattle.lrc_races_trace.specs.declared.event.Event.{Event}
use Rattle.lrc_races_why.specs.Answers.{HasEvent, HasNoEvent}
use Rattle.lrc_races_stream.specs.Why.{none, why}
use Rattle.lrc_races_stream.proofs.reasoning.stopped.Goals as goal

pub returns-then-has_event : goal.returns-then-has_event
returns-then-has_event c =
    why (λ behind. subst (λ (events : List Event). HasEvent events c.args.first) c.deref.ensures.value (c.has_event.ensures.0 c.if-has_event.true))

pub returns-then-is_behind : goal.returns-then-is_behind
returns-then-is_behind c =
    none (c.is_behind.ensures.0 c.if-is_behind.true)
    (subst (λ (events : List Event). HasNoEvent events c.args.first) c.deref.ensures.value
    (λ position event on. true≢false (sym (c.has_event.ensures.1 (position, event, on)) ∙ c.if-has_event.false)))

pub returns : goal.returns
returns c = why (λ behind. absurd (true≢false (sym (c.is_behind.ensures.1 behind) ∙ c.if-is_behind.false)))
