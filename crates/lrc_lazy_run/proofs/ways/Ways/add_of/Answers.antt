use Rattle.std.proofs.Common.{◌<◌, length, arith, inl, inr, refl, subst, sym, ap, ◌∙◌}
use Rattle.std.specs.Prelude.{slice_get}
use Rattle.std.proofs.lemmas.Bool.{cases_eq}
use Rattle.std.proofs.lemmas.Option.{same_Some, slice_get_within}
use Rattle.lrc_trace.specs.declared.act.Deed.{Deed}
use Rattle.lrc_orders.proofs.Keeping.{grows_again, item_in, stands_on as stays}
use Rattle.lrc_lazy_search.proofs.Adding.{grows_long}
use Rattle.lrc_lazy_run.specs.Ways.{HasStepAt}
use Rattle.lrc_lazy_run.proofs.Keeping.{can_on, has_on}
use Rattle.lrc_lazy_run.proofs.ways.Ways.add_of.Goals as goal

pub step-requires-clause-within : goal.step-requires-clause-within
step-requires-clause-within c = let long = grows_long c.loop-index.invariant.grows in omega (arith, long, c.requires.within)

pub step-requires-clause-can : goal.step-requires-clause-can
step-requires-clause-can c =
    let deeds = c.in_ok-deeds.deeds.items in
    let within : c.loop-index.index < length deeds = omega (arith, c.loop-index-test.true, c.loop-index.auto.index-end, c.len-index-end.ensures) in
    let there = item_in deeds deeds c.loop-index.index c.index.result.now refl within c.index.ensures in
    can_on c.args.sought.now.flat c.args.self.now.states.keys c.loop-index.self.states.keys c.args.place c.args.node c.index.result.now c.requires.within
    c.loop-index.invariant.grows (c.in_ok-deeds.ensures.sound c.loop-index.index c.index.result.now there)

pub loop-index-preserved : goal.loop-index-preserved
loop-index-preserved c =
    let flat = c.args.sought.now.flat in
    let i = c.loop-index.invariant in
    let e = c.in_ok-_added.ensures in
    let place = c.args.place in
    let node = c.args.node in
    let index = c.loop-index.index in
    let deeds = c.in_ok-deeds.deeds.items in
    let deed = c.index.result.now in
    let old = c.loop-index.self.states.keys in
    let new = c.step.new.self.states.keys in
    let within : index < length deeds = omega (arith, c.loop-index-test.true, c.loop-index.auto.index-end, c.len-index-end.ensures) in
    let there = item_in deeds deeds index deed refl within c.index.ensures in
    let long = grows_long i.grows in
    let here : place < length old = omega (arith, long, c.requires.within) in
    record {
      ways = e.ways;
      grows = grows_again i.grows e.grows;
      done = λ k other lt at. elim (cases_eq k index) [
        | inl same ↦
            let is = same_Some deed other (sym there ∙ ap (slice_get deeds) (sym same) ∙ at) in
            subst (λ (d : Deed). HasStepAt flat new place node d) is e.has
        | inr apart ↦ has_on flat old new place node other here e.grows (i.done k other (omega (arith, lt, apart)) at)
      ];
    }

pub returns-clause-all : goal.returns-clause-all
returns-clause-all c = λ deed can.
    let i = c.loop-index.invariant in
    let found = c.in_ok-deeds.ensures.all deed (λ key at. can key (stays c.args.place key i.grows at)) in
    let within = slice_get_within c.in_ok-deeds.deeds.items found.0 deed found.1 in
    i.done found.0 deed (omega (arith, within, c.loop-index-test.false, c.loop-index.auto.index-end, c.len-index-end.ensures)) found.1
