use Rattle.std.proofs.Common.{◌≡◌, ◌∙◌, [], arith, rules, sym, ap, length, map, replicate, take}
use Rattle.std.proofs.lemmas.List.{length-map, length-replicate}
use Rattle.lrc_world.proofs.Events.{get_at, take_whole}
use Rattle.lrc_world.proofs.Walked.{walk_begins, walk_goes_on, same_count}
use Rattle.lrc_world.specs.Turned.{turned_of}
use Rattle.lrc_world.specs.Walk.{come_with}
use Rattle.lrc_world.proofs.turned.turned_events.Goals as goal

pub loop-event-init : goal.loop-event-init
loop-event-init c =
    let begun : c.in_ok-walk.walk.come.items ≡ replicate (length c.args.logs.now) 0 = search rules in
    let none : c.in_ok-walk.walk.flight.items ≡ [] = search rules in (
      ap length begun ∙ length-replicate (length c.args.logs.now) 0,
      λ program nodes options.
          walk_begins program nodes options c.args.events.now (map (λ log. log.items) c.args.logs.now) c.in_ok-walk.walk.come.items
          c.in_ok-walk.walk.flight.items c.new-turned.result.items
          (begun ∙ ap (λ n. replicate n 0) (sym (length-map c.args.logs.now (λ log. log.items)))) none (search rules),
    )

pub loop-event-preserved : goal.loop-event-preserved
loop-event-preserved c =
    let come : c.step.new.self.come.items
    ≡ come_with (map (λ log. log.items) c.args.logs.now) c.loop-event.walk.come.items c.in_ok-node.node = c.in_ok-node.ensures.come in (
      ap length come ∙ same_count (map (λ log. log.items) c.args.logs.now) c.loop-event.walk.come.items c.in_ok-node.node
          ∙ c.loop-event.invariant.0,
      λ program nodes options.
          walk_goes_on program nodes options c.args.events.now (map (λ log. log.items) c.args.logs.now) c.loop-event.event-index
          _ c.loop-event.walk.come.items c.loop-event.walk.flight.items c.step.new.self.come.items c.step.new.self.flight.items
          c.loop-event.turned.items c.note.new.turned.items c.in_ok-node.node
          (get_at c.args.events.now c.loop-event.event-index _ (omega (arith, c.loop-event-test.true)))
          (c.loop-event.invariant.1 program nodes options) c.in_ok-node.ensures.node come c.in_ok-node.ensures.flight c.in_ok-note.ensures,
    )

pub returns : goal.returns
returns c = λ program nodes options few has.
    let all : take c.loop-event.event-index c.args.events.now ≡ c.args.events.now =
    take_whole c.args.events.now c.loop-event.event-index (omega (arith, c.loop-event-test.false)) in
    let done = c.loop-event.invariant.1 program nodes options few has in
    done.3 ∙ ap (turned_of program nodes options) all
