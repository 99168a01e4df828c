use Rattle.std.proofs.Common.{◌∙◌, ◌++◌, ◌∷◌, [], ℕ, Bool, List, ap, cond, false, sym}
use Rattle.std.specs.Prelude.{◌&&◌, filter, slice_index_or}
use Rattle.std.specs.List.{range_with_len}
use Rattle.lrc_protocol.specs.Pages.{copy_at}
use Rattle.lrc_chart_invalid.specs.Invalidated.{is_invalid}
use Rattle.lrc_chart_invalid.proofs.Finding.{filter_more}
use Rattle.lrc_chart_invalid.proofs.copies.invalid_since.Goals as goal

pub loop-page-preserved : goal.loop-page-preserved
loop-page-preserved c =
    let p : ℕ → Bool = λ page. slice_index_or c.args.before.now page false && is_invalid (copy_at c.memory-memory.result.now.memory page) in
    let page = c.loop-page.page in
    c.in_ok-push_if.ensures
    ∙ ap (λ (l : List ℕ). l ++ cond c.becomes_invalid.result (page ∷ []) []) c.loop-page.invariant
    ∙ ap (λ (b : Bool). filter p (range_with_len 0 page) ++ cond b (page ∷ []) []) c.becomes_invalid.ensures
    ∙ sym (filter_more p page)
