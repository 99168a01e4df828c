use Rattle.std.proofs.Common.{◌∙◌, ◌++◌, ◌∷◌, [], ℕ, Bool, List, ap, arith, map, sym}
use Rattle.std.specs.List.{range_with_len}
use Rattle.std.proofs.lemmas.List.FromFn.{map-range_with_len_more}
use Rattle.lrc_protocol.specs.Pages.{copy_at, is_readable}
use Rattle.lrc_chart_invalid.proofs.copies.readable.Goals as goal

pub loop-page-preserved : goal.loop-page-preserved
loop-page-preserved c =
    let f : ℕ → Bool = λ page. is_readable (copy_at c.memory-memory.result.now.memory page) in
    let page = c.loop-page.page in
    c.in_ok-push.ensures.items
    ∙ ap (λ (l : List Bool). l ++ c.is_readable.result ∷ []) c.loop-page.invariant
    ∙ ap (λ (b : Bool). map f (range_with_len 0 page) ++ b ∷ []) c.is_readable.ensures
    ∙ sym (map-range_with_len_more f 0 page page (omega arith))
