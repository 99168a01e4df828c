use Rattle.std.proofs.Common.{◌∙◌, ◌++◌, ℕ, List, ap, sym}
use Rattle.lrc_explain_waits.specs.Circles.{circle_of}
use Rattle.lrc_text.proofs.Each.{range_more}
use Rattle.lrc_chart_build.specs.Circles.{nodes_if}
use Rattle.lrc_chart_build.proofs.circles.circled_nodes.Goals as goal

pub loop-first-preserved : goal.loop-first-preserved
loop-first-preserved c =
    let first = c.loop-first.first in
    let of : ℕ → List ℕ = λ n. nodes_if n (circle_of c.args.waits.now n) in
    c.in_ok-push_nodes.ensures ∙ ap (λ (l : List ℕ). l ++ of first) c.loop-first.invariant ∙ sym (range_more of first)
