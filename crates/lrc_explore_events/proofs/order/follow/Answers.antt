use Rattle.std.proofs.Common.{◌∙◌, ◌+◌, [], ◌∷◌, Option, ap, arith, length, length-append, subst}
use Rattle.std.specs.Prelude.{MatchOption}
use Rattle.lrc_protocol.specs.declared.event.Event.{Event}
use Rattle.lrc_along.specs.Along.{NoneDue}
use Rattle.lrc_along.specs.Due.{IsDue}
use Rattle.lrc_explore_events.proofs.Played.{followed_long, followed_so, following_more}
use Rattle.lrc_explore_events.proofs.order.follow.Goals as goal

pub loop-event-preserved : goal.loop-event-preserved
loop-event-preserved c = record {
  follows = λ program nodes options is begins.
      following_more program nodes options c.args.order.now c.loop-event.player c.play.new.self c.in-Some.event
      (c.loop-event.invariant.follows program nodes options is begins)
      (λ world stands. subst (λ (o : Option Event). MatchOption o (NoneDue program nodes c.args.order.now world) (IsDue program nodes c.args.order.now world))
      c.in-Some.is (c.in_ok-event.ensures program nodes world stands is))
      (λ world next stands goes. c.in_ok-play.ensures.played program nodes world next stands goes) c.in_ok-play.ensures.events;
  count =
      ap length c.in_ok-play.ensures.events ∙ length-append c.loop-event.player.events.items (c.in-Some.event ∷ [])
      ∙ ap (λ n. n + 1) c.loop-event.invariant.count;
}

pub returns-in_default : goal.returns-in_default
returns-in_default c = λ program nodes options is begins.
    followed_so program nodes options c.args.order.now c.loop-event.player (c.loop-event.invariant.follows program nodes options is begins)
    (λ world stands. subst (λ (o : Option Event). MatchOption o (NoneDue program nodes c.args.order.now world) (IsDue program nodes c.args.order.now world))
    c.in_default.is (c.in_ok-event.ensures program nodes world stands is))

pub returns : goal.returns
returns c = λ program nodes options is begins.
    followed_long program nodes options c.args.order.now c.loop-event.player (c.loop-event.invariant.follows program nodes options is begins)
    (omega (arith, c.loop-event.invariant.count, c.loop-event-test.false))
