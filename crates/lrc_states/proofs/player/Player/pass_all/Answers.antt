use Rattle.lrc_states.proofs.Playing.{played_all, plays_on}
use Rattle.lrc_states.proofs.player.Player.pass_all.Goals as goal

pub loop-event-preserved : goal.loop-event-preserved
loop-event-preserved c = record {
  on = c.pass.ensures.on;
  player = λ plan world end turns is goes.
      plays_on plan world end turns c.args.events.now c.loop-event.event-index _ c.loop-event.self c.pass.new.self c.loop-event-test.true goes
      (c.loop-event.invariant.player plan world end turns is goes)
      (λ now next t at on. c.in_ok-pass.ensures.player plan now next t at on);
}

pub returns-clause-player : goal.returns-clause-player
returns-clause-player c plan world end turns is goes =
    played_all plan world end turns c.args.events.now c.loop-event.event-index c.loop-event.self c.loop-event-test.false goes
    (c.loop-event.invariant.player plan world end turns is goes)
