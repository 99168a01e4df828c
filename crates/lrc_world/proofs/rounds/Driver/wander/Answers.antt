use Rattle.std.proofs.Common.{◌∙◌, ◌<◌, sym, length, arith}
use Rattle.lrc_world.specs.declared.report.TheConstants.{MOST_EVENTS}
use Rattle.lrc_world.specs.Random.{wandering}
use Rattle.lrc_world.proofs.Choosing.{idle_where, one_more, wanders_on}
use Rattle.lrc_world.proofs.Driven.{fails-after, goes-twice}
use Rattle.lrc_world.proofs.rounds.Driver.wander.Goals as goal

pub returns-in_default-clause-over : goal.returns-in_default-clause-over
returns-in_default-clause-over c = λ few.
    idle_where c.args.nodes c.next.result c.loop-event.self.world (λ starts run shows. sym c.in_default.is ∙ c.in_ok-event.ensures starts run shows)

pub returns-in_err-play-clause-goes : goal.returns-in_err-play-clause-goes
returns-in_err-play-clause-goes c =
    let s = wandering c.args.nodes c.args.seed in
    let state = c.loop-event.random.state in
    let after = c.next.new.self.state in (
      after,
      fails-after s c.args.seed state after after c.args.self.now c.loop-event.self c.play.new.self c.in_err-play.field-0.0
          c.from_residual-in_err-play.result c.from_residual-in_err-play.ensures.1 c.loop-event.invariant.goes
          (wanders_on c.args.nodes c.args.seed state after c.next.result c.in-Some.event c.loop-event.self c.play.new.self _ c.next.ensures.state
          c.next.ensures.number (λ starts run shows. sym c.in-Some.is ∙ c.in_ok-event.ensures starts run shows) c.in_err-play.ensures),
    )

pub loop-event-preserved : goal.loop-event-preserved
loop-event-preserved c =
    let s = wandering c.args.nodes c.args.seed in
    let state = c.loop-event.random.state in
    let after = c.next.new.self.state in
    let room : length c.loop-event.self.events.items < MOST_EVENTS = omega (arith, c.loop-event-test.true, c.loop-event.invariant.count) in
    let one = one_more c.loop-event.self c.play.new.self c.in-Some.event _ c.in_ok-play.ensures room in
    record {
      goes = goes-twice s c.args.seed state after c.args.self.now c.loop-event.self c.play.new.self c.loop-event.invariant.goes
          (wanders_on c.args.nodes c.args.seed state after c.next.result c.in-Some.event c.loop-event.self c.play.new.self _ c.next.ensures.state
          c.next.ensures.number (λ starts run shows. sym c.in-Some.is ∙ c.in_ok-event.ensures starts run shows) c.in_ok-play.ensures);
      count = omega (arith, one, c.loop-event.invariant.count);
    }
