use Rattle.std.proofs.Common.{refl}
use Rattle.lrc_protocol.specs.Run.{fresh_world}
use Rattle.lrc_chart_invalid.proofs.Finding.{plays_on, played_all}
use Rattle.lrc_chart_invalid.proofs.turns.invalidated.Goals as goal

pub loop-event-preserved : goal.loop-event-preserved
loop-event-preserved c end goes =
    let world = fresh_world c.args.code.now c.args.nodes c.args.options.now in
    plays_on world end c.args.events.now c.loop-event.event-index _ c.loop-event.replay c.play.new.replay c.loop-event.found.items c.play.new.found.items
    c.loop-event-test.true goes (c.loop-event.invariant end goes)
    (λ now next at on. c.in_ok-play.ensures.replay now next at on)
    (λ now next at on. c.in_ok-play.ensures.found now next at on)

pub returns : goal.returns
returns c end goes =
    played_all (fresh_world c.args.code.now c.args.nodes c.args.options.now) c.args.events.now c.loop-event.event-index c.loop-event.replay
    c.loop-event.found.items c.loop-event-test.false (c.loop-event.invariant end goes)
