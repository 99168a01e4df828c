use Rattle.std.proofs.Common.{◌≡◌, ◌<◌, ◌∙◌, ap, sym, subst, arith, length, refl}
use Rattle.std.specs.Prelude.{slice_get}
use Rattle.std.proofs.lemmas.Option.{slice_get_within}
use Rattle.std.proofs.Common.{inl, inr}
use Rattle.std.proofs.lemmas.Bool.{cases_eq}
use Rattle.std.proofs.lemmas.Option.{same_Some}
use Rattle.lrc_trace.specs.declared.act.Deed.{Deed}
use Rattle.lrc_orders.proofs.Keeping.{item_in, grows_again}
use Rattle.lrc_lazy_search.specs.Searching.{HasStep}
use Rattle.lrc_lazy_search.proofs.Making.{can_below}
use Rattle.lrc_lazy_search.proofs.Adding.{step_on}
use Rattle.lrc_lazy_search.proofs.state.LazyState.nexts_of.Goals as goal

pub add_next-requires-clause-node : goal.add_next-requires-clause-node
add_next-requires-clause-node c =
    let deeds = c.in_ok-deeds.deeds.items in
    let within : c.loop-place.place < length deeds = omega (arith, c.loop-place-test.true, c.loop-place.auto.place-end, c.len-place-end.ensures) in
    let there = item_in deeds deeds c.loop-place.place c.index.result.now refl within c.index.ensures in
    can_below c.args.flat.now c.args.self.now c.args.node c.index.result.now c.requires.fit
    (c.in_ok-deeds.ensures.sound c.loop-place.place c.index.result.now there)

pub returns-clause-all : goal.returns-clause-all
returns-clause-all c = λ deed can.
    let found = c.in_ok-deeds.ensures.all deed can in
    let within = slice_get_within c.in_ok-deeds.deeds.items found.0 deed found.1 in
    c.loop-place.invariant.done found.0 deed
    (omega (arith, within, c.loop-place-test.false, c.loop-place.auto.place-end, c.len-place-end.ensures)) found.1

pub returns-clause-kept : goal.returns-clause-kept
returns-clause-kept c = λ n all deed can. step_on c.loop-place.invariant.grows (all deed can)

pub loop-place-preserved : goal.loop-place-preserved
loop-place-preserved c =
    let flat = c.args.flat.now in
    let key = c.args.self.now in
    let node = c.args.node in
    let i = c.loop-place.invariant in
    let e = c.in_ok-add_next.ensures in
    let place = c.loop-place.place in
    let deeds = c.in_ok-deeds.deeds.items in
    let deed = c.index.result.now in
    let new = c.add_next.new.all.items in
    let within : place < length deeds = omega (arith, c.loop-place-test.true, c.loop-place.auto.place-end, c.len-place-end.ensures) in
    let there = item_in deeds deeds place deed refl within c.index.ensures in
    record {
      sound = e.sound;
      grows = grows_again i.grows e.grows;
      done = λ k other lt at. elim (cases_eq k place) [
        | inl same ↦
            let is : deed ≡ other = same_Some deed other (sym there ∙ ap (slice_get deeds) (sym same) ∙ at) in
            subst (λ (d : Deed). HasStep flat key node d new) is e.has
        | inr apart ↦ step_on e.grows (i.done k other (omega (arith, lt, apart)) at)
      ];
      neat = λ here before. e.neat here (i.neat here before);
      left = λ some before. e.left some (i.left some before);
    }
