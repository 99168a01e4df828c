use Rattle.std.proofs.Common.{◌∙◌, ◌∷◌, [], ◌++◌, ap₂, sym, arith}
use Rattle.std.proofs.lemmas.List.FromFn.{map-range_with_len_more}
use Rattle.lrc_explain_waits.specs.Stand.{stand_of}
use Rattle.lrc_explain_waits.proofs.stand.stands_of.Goals as goal

pub loop-node-preserved : goal.loop-node-preserved
loop-node-preserved c = λ program lines are.
    let nodes = c.args.nodes in
    let node = c.loop-node.node in
    let of = stand_of program nodes lines c.args.steps c.args.acts.now in
    c.in_ok-push.ensures.items
    ∙ ap₂ (λ l stand. l ++ stand ∷ []) (c.loop-node.invariant program lines are) (c.stand_of.ensures program nodes lines c.loop-node-test.true are)
    ∙ sym (map-range_with_len_more of 0 node node (omega arith))
