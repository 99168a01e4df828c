use Rattle.std.proofs.Common.{◌≡◌, ◌∙◌, ◌++◌, [], ◌∷◌, ap, arith}
use Rattle.std.specs.Prelude.{cond}
use Rattle.lrc_world.proofs.Choosing.{added, not_added, few_more, passes_more}
use Rattle.lrc_world.proofs.world.World.ready_nodes.Goals as goal
use Rattle.lrc_world.proofs.world.World.ready_nodes.Goals.{then-is_ready+in_ok-push, else-is_ready}

pub loop-node-preserved : goal.loop-node-preserved
loop-node-preserved c =
    let node = c.loop-node.node in
    let before = c.loop-node.ready.items in
    let after = c.if-is_ready.ready.items in
    let step : after ≡ before ++ cond c.is_ready.result (node ∷ []) [] =
    elim c.if-is_ready.branch [
      | then-is_ready+in_ok-push w ↦
          let same : w.from.result ≡ node = omega (arith, w.from.ensures) in
          added c.is_ready.result node before after w.if-is_ready.true
          (ap (λ v. v.items) w.ready-is ∙ w.in_ok-push.ensures.items ∙ ap (λ n. before ++ n ∷ []) same)
      | else-is_ready w ↦ not_added c.is_ready.result node before after w.if-is_ready.false (ap (λ v. v.items) w.ready-is)
    ] in
    record {
      few = few_more c.is_ready.result node before after step c.loop-node.invariant.few;
      ready = λ starts run shows.
          passes_more _ node before after (c.loop-node.invariant.ready starts run shows)
          (step ∙ ap (λ b. before ++ cond b (node ∷ []) []) (c.is_ready.ensures starts run shows));
    }
