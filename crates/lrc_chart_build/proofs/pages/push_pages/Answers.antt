use Rattle.std.proofs.Common.{◌∙◌, ◌++◌, ℕ, List, ap, append_assoc, codes, get_or, refl}
use Rattle.std.specs.Prelude.{decimal}
use Rattle.lrc_chart_build.proofs.Steps.{flat_step}
use Rattle.lrc_chart_build.proofs.pages.push_pages.Goals as goal

pub loop-page-preserved : goal.loop-page-preserved
loop-page-preserved c =
    let pages = c.args.pages.now in
    let k = c.loop-page.page-index in
    let of : ℕ → List ℕ = λ page. codes ", " ++ decimal page in
    flat_step of pages k 0 (get_or pages k 0) c.args.text.now.items c.loop-page.text.items c.push_number.new.text.items
    c.loop-page-test.true refl c.loop-page.invariant
    (c.in_ok-push_number.ensures.ok ∙ append_assoc c.loop-page.text.items (codes ", ") (decimal c.from.result) ∙ ap (λ n. c.loop-page.text.items ++ of n) c.from.ensures)
