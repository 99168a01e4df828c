use Rattle.std.proofs.Common.{◌∙◌, ◌++◌, ℕ, List, ap, sym}
use Rattle.lrc_explain_waits.specs.Circles.{circle_of}
use Rattle.lrc_text.proofs.Each.{range_more}
use Rattle.lrc_step.specs.EndLines.{circle_if}
use Rattle.lrc_step.proofs.ends.circles_of.Goals as goal

pub loop-first-preserved : goal.loop-first-preserved
loop-first-preserved c =
    let first = c.loop-first.first in
    let of : ℕ → List (List ℕ) = λ n. circle_if n (circle_of c.args.waits.now n) in
    c.in_ok-push_circle.ensures ∙ ap (λ (l : List (List ℕ)). l ++ of first) c.loop-first.invariant ∙ sym (range_more of first)
