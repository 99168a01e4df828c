use Rattle.std.proofs.Common.{◌∙◌, [], ◌∷◌, ap, arith, inl, inr, length, length-append}
use Rattle.lrc_protocol.specs.declared.event.Event.TheVariants.{Deliver}
use Rattle.lrc_explore_events.proofs.Played.{draining_more}
use Rattle.lrc_explore_events.proofs.order.drain.Goals as goal

pub loop-event-preserved : goal.loop-event-preserved
loop-event-preserved c = record {
  drains = λ program nodes options begins.
      draining_more program nodes options c.args.player.now.events.items c.loop-event.player c.play.new.self
      (c.loop-event.invariant.drains program nodes options begins)
      (λ world next stands goes. c.in_ok-play.ensures.played program nodes world next stands goes) c.in_ok-play.ensures.events;
  count =
      let more = ap length c.in_ok-play.ensures.events ∙ length-append c.loop-event.player.events.items (Deliver 0 ∷ []) in
      omega (arith, more, c.loop-event.invariant.count);
}

pub returns-then-is_quiet : goal.returns-then-is_quiet
returns-then-is_quiet c = λ program nodes options begins.
    let d = c.loop-event.invariant.drains program nodes options begins in
    record {
      draining = d;
      rests = λ world runs. inl ((c.is_quiet.ensures program nodes world (d.stands world runs).player_is).0 c.if-is_quiet.true);
    }

pub returns : goal.returns
returns c = λ program nodes options begins.
    let d = c.loop-event.invariant.drains program nodes options begins in
    let long = ap length d.events ∙ length-append c.args.player.now.events.items d.behind in
    record {
      draining = d;
      rests = λ world runs. inr (omega (arith, long, c.loop-event.invariant.count, c.loop-event-test.false));
    }
