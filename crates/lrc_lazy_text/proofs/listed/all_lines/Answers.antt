use Rattle.std.proofs.Common.{◌≡◌, ◌+◌, ◌++◌, ◌∙◌, List, take, sym, subst, ap}
use Rattle.std.specs.Prelude.{Some, slice_get}
use Rattle.std.proofs.lemmas.Option.{slice_get-get_or}
use Rattle.lrc_text.specs.Parts.{whole_text}
use Rattle.lrc_lazy_text.specs.Listed.{marked_lines}
use Rattle.lrc_lazy_text.proofs.Sorting.{Part, text_more}
use Rattle.lrc_lazy_text.proofs.listed.all_lines.Goals as goal

pub loop-outcome-preserved : goal.loop-outcome-preserved
loop-outcome-preserved c =
    let told = c.args.told.now in
    let head = c.args.head.items in
    let index = c.loop-outcome.outcome-index in
    let own = c.outcome-item.result in
    let there : slice_get told index ≡ Some own = slice_get-get_or told index _ c.loop-outcome-test.true ∙ ap Some (sym c.outcome-item.is) in
    subst (λ (l : List Part). whole_text l ≡ head ++ marked_lines (take (index + 1) told)) (sym c.in_ok-push-2.ensures.items)
    (text_more c.loop-outcome.parts.items head told index own _ there c.in_ok-marked.ensures c.loop-outcome.invariant)
