use Rattle.std.proofs.Common.{◌≡◌, ◌≤◌, ◌<◌, ◌+◌, ◌-◌, ℕ, refl, subst, arith, length}
use Rattle.lrc_world.specs.Driven.{IsDrivenOn}
use Rattle.lrc_world.specs.Rounds.{schedule_of_rounds, at_node, delivering}
use Rattle.lrc_world.proofs.Driven.{goes-twice, fails-after, still-after, none_long, turns_done, delivers_one, moved}
use Rattle.lrc_world.proofs.rounds.Driver.deliver_each.Goals as goal

pub returns-in_err-play-clause-goes : goal.returns-in_err-play-clause-goes
returns-in_err-play-clause-goes c = λ nodes.
    let below : c.loop-message._message < c.in_flight-count.result = omega arith in
    fails-after (schedule_of_rounds c.args.picker nodes) (at_node nodes) (delivering (c.in_flight-count.result - c.loop-message._message))
    (delivering (c.in_flight-count.result - (c.loop-message._message + 1))) (delivering 0)
    c.args.self.now c.loop-message.self c.play.new.self c.in_err-play.field-0.0 c.from_residual.result
    c.from_residual.ensures.1 (c.loop-message.invariant.goes nodes)
    (delivers_one c.args.picker nodes c.loop-message.self c.play.new.self c.next_delivery-event.result _ c.in_err-play.ensures c.in_flight-count.result
    c.loop-message._message below c.next_delivery-event.ensures)

pub loop-message-init : goal.loop-message-init
loop-message-init c = record {
  goes = λ nodes.
      let all : length c.args.self.now.world.flight.items ≡ c.in_flight-count.result - 0 = omega (arith, c.in_flight-count.ensures) in
      subst (λ k. IsDrivenOn (schedule_of_rounds c.args.picker nodes) (at_node nodes) (delivering k) c.args.self.now c.args.self.now) all
      (turns_done c.args.picker nodes c.args.self.now);
  more = omega arith;
  still = λ s. (refl, refl);
}

pub loop-message-preserved : goal.loop-message-preserved
loop-message-preserved c =
    let below : c.loop-message._message < c.in_flight-count.result = omega arith in
    let one : (nodes : ℕ) → IsDrivenOn (schedule_of_rounds c.args.picker nodes) (delivering (c.in_flight-count.result - c.loop-message._message))
    (delivering (c.in_flight-count.result - (c.loop-message._message + 1))) c.loop-message.self c.play.new.self =
    λ nodes.
    delivers_one c.args.picker nodes c.loop-message.self c.play.new.self c.next_delivery-event.result _ c.in_ok-play.ensures c.in_flight-count.result
    c.loop-message._message below c.next_delivery-event.ensures in
    let more = (one 0).more in
    record {
      goes = λ nodes. goes-twice (schedule_of_rounds c.args.picker nodes) (at_node nodes) (delivering (c.in_flight-count.result - c.loop-message._message))
          (delivering (c.in_flight-count.result - (c.loop-message._message + 1))) c.args.self.now c.loop-message.self c.play.new.self
          (c.loop-message.invariant.goes nodes) (one nodes);
      more = omega (arith, c.loop-message.invariant.more, more);
      still = λ s. absurd (moved c.loop-message.self c.play.new.self c.next_delivery-event.result _ c.in_ok-play.ensures
          (still-after c.args.self.now c.loop-message.self c.play.new.self c.loop-message.invariant.more s));
    }

pub returns-clause-goes : goal.returns-clause-goes
returns-clause-goes c = λ nodes.
    let none : c.in_flight-count.result - c.loop-message._message ≡ 0 = omega arith in
    subst (λ k. IsDrivenOn (schedule_of_rounds c.args.picker nodes) (at_node nodes) (delivering k) c.args.self.now c.loop-message.self) none
    (c.loop-message.invariant.goes nodes)

pub returns-clause-still : goal.returns-clause-still
returns-clause-still c = λ s.
    let still = c.loop-message.invariant.still s in
    let none : length c.args.self.now.world.flight.items ≤ 0 = omega (arith, still.1) in
    (still.0, none_long c.args.self.now.world.flight.items none)
