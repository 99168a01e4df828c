use Rattle.std.proofs.Common.{◌∙◌, ◌∷◌, ◌++◌, [], ℕ, List, ap, sym}
use Rattle.lrc_text.proofs.Each.{range_more}
use Rattle.lrc_chart_acts.specs.Times.{closings}
use Rattle.lrc_chart_acts.proofs.closings.all_closings.Goals as goal

pub loop-node-preserved : goal.loop-node-preserved
loop-node-preserved c =
    let node = c.loop-node.node in
    let of : ℕ → List (List ℕ) = λ n. closings c.args.acts.now n ∷ [] in
    c.in_ok-push_closings.ensures ∙ ap (λ (l : List (List ℕ)). l ++ of node) c.loop-node.invariant ∙ sym (range_more of node)
