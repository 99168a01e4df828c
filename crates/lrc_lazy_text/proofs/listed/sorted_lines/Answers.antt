use Rattle.std.proofs.Common.{◌≡◌, ℕ, ◌+◌, ◌<◌, ◌≤◌, ◌∙◌, List, length, map, take, refl, sym, subst, ap, ap₂, arith}
use Rattle.std.specs.Prelude.{Option, Some, slice_get}
use Rattle.std.specs.Option.{option_cmp}
use Rattle.std.specs.Ordering.{nat_cmp}
use Rattle.std.proofs.lemmas.List.{take_all}
use Rattle.std.proofs.lemmas.Option.{slice_get-get_or}
use Rattle.lrc_orders.specs.declared.outcomes.Outcome.{Outcome}
use Rattle.lrc_explore_text.specs.Outcomes.{outcome_line}
use Rattle.lrc_lazy_text.specs.declared.listed.ToldOutcome.{ToldOutcome}
use Rattle.lrc_lazy_text.specs.Listed.{lines_with, told_pair}
use Rattle.lrc_lazy_text.proofs.Sorting.{one_more, sorted_told}
use Rattle.lrc_lazy_text.proofs.listed.sorted_lines.Goals as goal

pub loop-place-preserved : goal.loop-place-preserved
loop-place-preserved c =
    let nodes = c.args.nodes in
    let outcomes = c.args.outcomes.now in
    let seeds = c.args.seeds.now in
    let place = c.loop-place.place in
    let own = c.index-outcomes-place.result in
    let within : place < length outcomes = c.loop-place-test.true in
    let fits : place < length seeds = omega (arith, c.loop-place-test.true, c.requires) in
    let there : slice_get outcomes place ≡ Some own = slice_get-get_or outcomes place _ within ∙ ap Some (sym c.index-outcomes-place.is) in
    let line = c.in_ok-line.ensures ∙ ap (outcome_line nodes) c.deref.ensures.value
    ∙ ap (λ (o : Outcome). outcome_line nodes o.notes.items) (sym c.index-outcomes-place.is) in
    subst (λ (l : List ToldOutcome). map told_pair l ≡ lines_with nodes (take (place + 1) outcomes) (take (place + 1) seeds)) (sym c.in_ok-push.ensures.items)
    (one_more nodes outcomes seeds c.loop-place.told.items place own _ _ there (slice_get-get_or seeds place _ fits) line refl c.loop-place.invariant)

pub returns : goal.returns
returns c =
    let nodes = c.args.nodes in
    let outcomes = c.args.outcomes.now in
    let seeds = c.args.seeds.now in
    let place = c.loop-place.place in
    let all : length outcomes ≤ place = c.loop-place-test.false in
    let all_seeds : length seeds ≤ place = omega (arith, c.loop-place-test.false, c.requires) in
    let found : map told_pair c.loop-place.told.items ≡ lines_with nodes outcomes seeds =
    c.loop-place.invariant
    ∙ ap₂ (λ (o : List Outcome) (s : List (Option ℕ)). lines_with nodes o s) (take_all place outcomes all) (take_all place seeds all_seeds) in
    sorted_told (λ (x y : ToldOutcome). option_cmp nat_cmp x.seed y.seed) nodes outcomes seeds c.loop-place.told.items c.sort_unstable.new.self.items found
    c.sort_unstable.ensures.permutation c.sort_unstable.ensures.sorted
