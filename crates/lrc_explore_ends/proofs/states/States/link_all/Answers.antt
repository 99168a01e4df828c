use Rattle.std.proofs.Common.{◌∙◌, arith, refl}
use Rattle.lrc_explore_ends.specs.declared.states.States.{States}
use Rattle.lrc_explore_ends.proofs.Linking.{all_stepped, all_wider, linking_first, linking_on}
use Rattle.lrc_explore_ends.proofs.states.States.link_all.Goals as goal

pub loop-place-init : goal.loop-place-init
loop-place-init c = linking_first c.args.task.now c.args.self.now c.requires.stepped

pub loop-place-preserved : goal.loop-place-preserved
loop-place-preserved c =
    let e = c.in_ok-link_steps.ensures in
    linking_on c.args.task.now c.args.self.now c.loop-place.self c.link_steps.new.self c.loop-place.place c.loop-place.invariant e.stepped e.wider e.known

pub returns-clause-stepped : goal.returns-clause-stepped
returns-clause-stepped c =
    let old = c.loop-place.self in
    let new : States = record { found = old.found; steps = c.widen.new.self } in
    all_stepped c.args.task.now c.args.self.now old new c.loop-place.place c.loop-place.invariant (omega (arith, c.loop-place-test.false, c.len.ensures.len)) refl
    (c.in_ok-widen.ensures.count ∙ c.len-2.ensures.len) c.in_ok-widen.ensures.edges

pub returns-clause-wider : goal.returns-clause-wider
returns-clause-wider c =
    let old = c.loop-place.self in
    let new : States = record { found = old.found; steps = c.widen.new.self } in
    all_wider c.args.task.now c.args.self.now old new c.loop-place.place c.loop-place.invariant (omega (arith, c.loop-place-test.false, c.len.ensures.len)) refl
    (c.in_ok-widen.ensures.count ∙ c.len-2.ensures.len) c.in_ok-widen.ensures.edges
