use Rattle.std.proofs.Common.{◌≡◌, rules}
use Rattle.std.specs.Prelude.{Err}
use Rattle.lrc_states.specs.declared.fault.StatesFault.TheVariants.{TooLong}
use Rattle.lrc_states.proofs.Lines.{tells_on, told_all, too_many}
use Rattle.lrc_states.proofs.player.Player.tell_all.Goals as goal

pub loop-event-preserved : goal.loop-event-preserved
loop-event-preserved c = record {
  on = c.tell_within.ensures.on;
  few = c.in_ok-tell_within.ensures.few;
  told = λ plan world end turns is goes.
      tells_on plan c.args.telling world end turns c.args.to c.args.events.now c.loop-event.event-index _ c.args.parts.now.items c.loop-event.parts.items c.loop-event.self
      c.loop-event-test.true goes (c.loop-event.invariant.told plan world end turns is goes) c.tell_within.new.parts.items c.tell_within.new.self
      (λ w m t at on. c.in_ok-tell_within.ensures.player plan w m t at on) (λ w m t at on. c.in_ok-tell_within.ensures.told plan w m t at on);
}

pub returns-clause-told : goal.returns-clause-told
returns-clause-told c plan world end turns is goes =
    told_all plan c.args.telling world turns c.args.to c.args.events.now c.loop-event.event-index c.args.parts.now.items c.loop-event.parts.items c.loop-event.self
    c.loop-event-test.false c.requires.first c.loop-event.invariant.few (c.loop-event.invariant.told plan world end turns is goes)

pub returns-in_err-tell_within-clause-fault : goal.returns-in_err-tell_within-clause-fault
returns-in_err-tell_within-clause-fault c plan world end turns is goes fails =
    let same : c.tell_within.result ≡ Err TooLong = search rules in
    too_many plan c.args.telling world end turns c.args.to c.args.events.now c.loop-event.event-index _ c.args.parts.now.items c.loop-event.parts.items c.loop-event.self
    c.loop-event-test.true goes (c.loop-event.invariant.told plan world end turns is goes) c.requires.first
    (λ w m t at on. c.tell_within.ensures.fault plan w m t at on same)
