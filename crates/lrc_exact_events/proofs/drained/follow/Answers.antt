use Rattle.std.proofs.Common.{◌≡◌, ◌∙◌, ◌+◌, [], ◌∷◌, true, false, ap, arith, length, length-append, rules, sym}
use Rattle.lrc_exact_events.proofs.Playing.{ends_astray, ends_long, ends_whole, playing_more}
use Rattle.lrc_exact_events.proofs.drained.follow.Goals as goal

pub loop-event-preserved : goal.loop-event-preserved
loop-event-preserved c =
    let went : c.in_ok-play.field-0 ≡ true = search rules in
    record {
      plays = λ program nodes options begins.
          playing_more program nodes options c.args.order.now c.loop-event.player c.play.new.self c.in-Some.event
          (c.loop-event.invariant.plays program nodes options begins) (λ world stands. sym c.in-Some.is ∙ c.due.ensures world stands)
          (λ world next stands goes. c.in_ok-play.ensures.played world next stands goes went) (c.in_ok-play.ensures.events went);
      count =
          ap length (c.in_ok-play.ensures.events went) ∙ length-append c.loop-event.player.events.items (c.in-Some.event ∷ [])
          ∙ ap (λ n. n + 1) c.loop-event.invariant.count;
    }

pub returns-in_default : goal.returns-in_default
returns-in_default c = λ program nodes options begins.
    ends_whole program nodes options c.args.order.now c.loop-event.player (c.loop-event.invariant.plays program nodes options begins)
    (λ world stands. sym c.in_default.is ∙ c.due.ensures world stands)

pub returns-then-not-branch : goal.returns-then-not-branch
returns-then-not-branch c =
    let stayed : c.in_ok-play.field-0 ≡ false = search rules in
    λ program nodes options begins.
    ends_astray program nodes options c.args.order.now c.loop-event.player c.in-Some.event c.play.new.self.events.items
    (c.loop-event.invariant.plays program nodes options begins) (λ world stands. sym c.in-Some.is ∙ c.due.ensures world stands)
    (λ world next stands goes. c.in_ok-play.ensures.astray world next stands goes stayed) (ap (λ v. v.items) (c.in_ok-play.ensures.same stayed))

pub returns : goal.returns
returns c = λ program nodes options begins.
    ends_long program nodes options c.args.order.now c.loop-event.player (c.loop-event.invariant.plays program nodes options begins)
    (omega (arith, c.loop-event.invariant.count, c.loop-event-test.false))
