use Rattle.std.proofs.Common.{◌≡◌, ◌∙◌, ◌++◌, None, ap, arith, length, rules}
use Rattle.std.specs.Option.{option_to_list}
use Rattle.lrc_protocol.specs.Run.{fresh_world}
use Rattle.lrc_states.proofs.Starting.{found, passed, seeks, skips}
use Rattle.lrc_states.proofs.start.events_before.Goals as goal

pub loop-place-preserved-in_default : goal.loop-place-preserved-in_default
loop-place-preserved-in_default c made goes =
    let told = c.args.told.now in
    let none : c.in_ok-turn.field-0 ≡ None = search rules in
    skips (fresh_world c.args.code.now told.nodes told.options) made told.events.now c.loop-place.place c.args.position c.loop-place.left _ c.in_ok-turn.field-0
    c.loop-place.replay c.make.new.self c.loop-place-test.true goes (c.loop-place.invariant made goes) none
    (λ now next is on. c.in_ok-turn.ensures now next is on)

pub returns-then-left-acts-clause-start : goal.returns-then-left-acts-clause-start
returns-then-left-acts-clause-start c made goes =
    let told = c.args.told.now in
    let turn = c.in-Some.turn in
    let acts : c.acts_of-acts.result ≡ length (option_to_list turn.act) = search rules in
    found c.args.code.now told.nodes told.options told.events.now made goes c.loop-place.place c.args.position c.loop-place.left
    c.loop-place.replay (c.loop-place.invariant made goes) c.acts_of-acts.result _ c.in_ok-turn.field-0 turn c.make.new.self c.loop-place-test.true c.in-Some.is
    (λ now next is on. c.in_ok-turn.ensures now next is on)
    acts c.if-left-acts.true

pub loop-place-preserved : goal.loop-place-preserved
loop-place-preserved c made goes =
    let told = c.args.told.now in
    let turn = c.in-Some.turn in
    let acts : c.acts_of-acts.result ≡ length (option_to_list turn.act) = search rules in
    let out : c.turn.inside.out.items ≡ turn.out = search rules in
    seeks (fresh_world c.args.code.now told.nodes told.options) made told.events.now c.loop-place.place c.args.position c.loop-place.left _
    c.acts_of-acts.result _ c.in_ok-turn.field-0 turn c.loop-place.replay c.make.new.self c.post.new.self c.loop-place-test.true goes
    (c.loop-place.invariant made goes) c.in-Some.is (λ now next is on. c.in_ok-turn.ensures now next is on)
    c.in_ok-post.ensures.nodes (c.in_ok-post.ensures.flight ∙ ap (λ l. c.make.new.self.flight.items ++ l) out) acts (omega (arith, c.if-left-acts.false))

pub returns-clause-start : goal.returns-clause-start
returns-clause-start c made goes =
    let told = c.args.told.now in
    passed c.args.code.now told.nodes told.options told.events.now made goes c.loop-place.place c.args.position c.loop-place.left
    c.loop-place.replay (c.loop-place.invariant made goes) c.loop-place-test.false
