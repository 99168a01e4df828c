use Rattle.std.proofs.Common.{◌≡◌, ◌<◌, ◌∙◌, ap, length, sym, true, false, arith}
use Rattle.std.specs.Prelude.{Some}
use Rattle.std.proofs.lemmas.Option.{slice_get-get_or}
use Rattle.lrc_explore.proofs.Seeking.{too_many_states}
use Rattle.lrc_explore_less.proofs.Seeking.{gathered_all, gathering_first, gathering_on, no_shorter}
use Rattle.lrc_explore_less.proofs.less.Less.gather.Goals as goal

pub loop-index-init : goal.loop-index-init
loop-index-init c =
    (gathering_first c.args.task.now c.args.self.now c.args.outcomes.now.keys c.requires.less c.requires.begun c.requires.none, omega arith)

pub returns-then-many-clause-faults : goal.returns-then-many-clause-faults
returns-then-many-clause-faults c =
    let less = c.loop-index.invariant.0.less in
    too_many_states c.args.task.now c.loop-index.self.found false less.sound.found (c.are_too_many-many.ensures.many c.if-many.true)
    (λ looked. let x : false ≡ true = looked in cc)

pub take_outcome-requires-clause-within : goal.take_outcome-requires-clause-within
take_outcome-requires-clause-within c =
    let old = c.loop-index.self in
    let index = c.loop-index.index in
    let lt : index < length old.opens.items = omega (arith, c.loop-index-test.true, c.len.ensures) in
    c.loop-index.invariant.0.less.within index c.index-place.result.now (slice_get-get_or old.opens.items index _ lt ∙ ap Some (sym c.index-place.ensures))

pub expand-requires-clause-within : goal.expand-requires-clause-within
expand-requires-clause-within c =
    let old = c.loop-index.self in
    let index = c.loop-index.index in
    let lt : index < length old.opens.items = omega (arith, c.loop-index-test.true, c.len.ensures) in
    c.loop-index.invariant.0.less.within index c.index-place.result.now (slice_get-get_or old.opens.items index _ lt ∙ ap Some (sym c.index-place.ensures))

pub loop-index-preserved : goal.loop-index-preserved
loop-index-preserved c =
    let old = c.loop-index.self in
    let new = c.expand.new.self in
    let index = c.loop-index.index in
    let i = c.loop-index.invariant in
    let o = c.in_ok-take_outcome.ensures in
    let e = c.in_ok-expand.ensures in
    let lt : index < length old.opens.items = omega (arith, c.loop-index-test.true, c.len.ensures) in (
      gathering_on c.args.task.now old new c.loop-index.outcomes.keys c.take_outcome.new.outcomes.keys index c.index-place.result.now i.0 lt
          (slice_get-get_or old.opens.items index _ lt ∙ ap Some (sym c.index-place.ensures)) o.grows o.sound o.done e.less e.widens e.done,
      (let longer = no_shorter old.opens.items new.opens.items e.widens.opens in omega (arith, longer, lt)),
    )

pub loop-index-smaller : goal.loop-index-smaller
loop-index-smaller c =
    let few = c.are_too_many-many.ensures.fits c.if-many.false in
    omega (arith, few, c.loop-index-test.true, c.len.ensures)

pub returns-clause-done : goal.returns-clause-done
returns-clause-done c =
    gathered_all c.args.task.now c.loop-index.self c.loop-index.outcomes.keys c.loop-index.index c.loop-index.invariant.0
    (omega (arith, c.loop-index-test.false, c.len.ensures))
