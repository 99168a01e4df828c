use Rattle.std.proofs.Common.{◌++◌, ap, ◌∙◌, sym}
use Rattle.lrc_exact_copies.specs.Made.{has}
use Rattle.lrc_exact_copies.proofs.copy.NodeCopy.named_pages.Goals as goal

pub returns : goal.returns
returns c = λ shape node a l state old p stale.
    ap (λ xs. has xs p)
    (c.in_ok-extend_from_slice.ensures.items ∙ ap (λ xs. xs ++ c.as_slice.result.now) c.new-pages.ensures.items ∙ c.as_slice.ensures.value)
    ∙ old.all_named p (sym (old.stale_is p) ∙ stale)
