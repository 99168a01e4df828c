use Rattle.std.proofs.Common.{◌≡◌, ◌∙◌, List, ap, rules, subst, sym, true}
use Rattle.std.specs.Prelude.{Some, slice_get}
use Rattle.std.proofs.lemmas.Option.{same_Some}
use Rattle.lrc_trace.specs.declared.act.Act.{Act}
use Rattle.lrc_orders.proofs.Keeping.{item_in}
use Rattle.lrc_exact_laws.specs.Laws.{IsExactRun}
use Rattle.lrc_exact_judge.specs.Shape.{shape_of}
use Rattle.lrc_exact_search.specs.Run.{IsAhead}
use Rattle.lrc_exact_search.specs.declared.search.Met.{Met}
use Rattle.lrc_exact_search.proofs.Complete.{searched_further, searched_parts}
use Rattle.lrc_exact_search.proofs.Meeting.{on_ok}
use Rattle.lrc_exact_search.proofs.search.Searched.visit.Goals as goal

pub replayed-requires-clause-exact : goal.replayed-requires-clause-exact
replayed-requires-clause-exact c =
    let keys = c.args.self.now.runs.keys in
    let met = c.index-as_slice-place.result in
    let there = item_in keys c.as_slice.result.now c.args.place met c.as_slice.ensures.keys c.requires.within c.index-as_slice-place.is in
    subst (IsExactRun c.args.task.now.program.now (shape_of c.args.task.now.layout))
    (ap (λ (m : Met). m.acts.items) c.index-as_slice-place.is ∙ sym c.deref.ensures.value) (c.requires.order.exact c.args.place met there)

pub returns-then-branch-2-clause-done : goal.returns-then-branch-2-clause-done
returns-then-branch-2-clause-done c =
    let keys = c.args.self.now.runs.keys in
    let own = c.index-as_slice-place.result in
    let there = item_in keys c.as_slice.result.now c.args.place own c.as_slice.ensures.keys c.requires.within c.index-as_slice-place.is in
    let mid : List Act = c.spins.new.self.acts.items in
    let begun : c.in_ok-run.run'.acts.items ≡ own.acts.items =
    c.in_ok-run.ensures.acts ∙ c.deref.ensures.value ∙ sym (ap (λ (m : Met). m.acts.items) c.index-as_slice-place.is) in
    let again : c.in_ok-settle.field-0 ≡ true = search rules in
    on_ok c.meet.result
    (λ ahead_met met at.
    let same = begun ∙ ap (λ (m : Met). m.acts.items) (same_Some own met (sym there ∙ at)) in
    searched_further
    (subst (λ (xs : List Act). IsAhead c.args.task.now.program.now (shape_of c.args.task.now.layout) xs mid) same c.in_ok-spins.ensures.ahead)
    c.in_ok-settle.ensures.ahead (c.in_ok-settle.ensures.longer again) ahead_met) c.meet.ensures.met

pub returns-else-branch-2-clause-done : goal.returns-else-branch-2-clause-done
returns-else-branch-2-clause-done c =
    let keys = c.args.self.now.runs.keys in
    let own = c.index-as_slice-place.result in
    let there = item_in keys c.as_slice.result.now c.args.place own c.as_slice.ensures.keys c.requires.within c.index-as_slice-place.is in
    let mid : List Act = c.spins.new.self.acts.items in
    let begun : c.in_ok-run.run'.acts.items ≡ own.acts.items =
    c.in_ok-run.ensures.acts ∙ c.deref.ensures.value ∙ sym (ap (λ (m : Met). m.acts.items) c.index-as_slice-place.is) in
    on_ok c.part.result
    (λ parted met at.
    let same = begun ∙ ap (λ (m : Met). m.acts.items) (same_Some own met (sym there ∙ at)) in
    searched_parts
    (subst (λ (xs : List Act). IsAhead c.args.task.now.program.now (shape_of c.args.task.now.layout) xs mid) same c.in_ok-spins.ensures.ahead)
    c.in_ok-settle.ensures.ahead parted) c.part.ensures.parts
