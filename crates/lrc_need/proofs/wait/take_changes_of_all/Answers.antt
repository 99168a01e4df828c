use Rattle.std.proofs.Common.{◌≡◌, ◌++◌, map, take, drop, add-one, sym, ap, ◌∙◌, subst}
use Rattle.std.specs.Prelude.{slice_index_or, slice_set}
use Rattle.lrc_protocol.specs.Pages.{Need, changes_came}
use Rattle.lrc_need.proofs.Lists.{changed_at, changed_more}
use Rattle.lrc_need.proofs.wait.take_changes_of_all.Goals as goal

pub loop-need-preserved : goal.loop-need-preserved
loop-need-preserved c =
    let f : Need → Need = changes_came c.args.page c.args.maker in
    let xs = c.args.needs.now in
    let i = c.loop-need.need-index in
    let item = c.need-item.result in
    let here : slice_index_or c.loop-need.needs i item ≡ slice_index_or xs i item =
    ap (λ l. slice_index_or l i item) c.loop-need.invariant ∙ changed_at f xs i item c.loop-need-test.true in
    let set_to : slice_set c.loop-need.needs i c.take_changes.new.self ≡ slice_set (map f (take i xs) ++ drop i xs) i (f (slice_index_or xs i item)) =
    ap (λ l. slice_set l i c.take_changes.new.self) c.loop-need.invariant
    ∙ ap (λ x. slice_set (map f (take i xs) ++ drop i xs) i x) (c.take_changes.ensures ∙ ap f here) in
    subst (λ n. slice_set c.loop-need.needs i c.take_changes.new.self ≡ map f (take n xs) ++ drop n xs) (sym (add-one i))
    (set_to ∙ changed_more f xs i item c.loop-need-test.true)
