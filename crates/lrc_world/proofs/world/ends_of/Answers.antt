use Rattle.std.proofs.Common.{◌≡◌, ◌∙◌, ◌++◌, [], ◌∷◌, sym, ap, arith, rules, map, take, suc, ◌+◌}
use Rattle.lrc_world.specs.Report.{end_of_logged}
use Rattle.lrc_world.proofs.Lists.{map-both}
use Rattle.lrc_world.proofs.NodeTurns.{stands_at}
use Rattle.lrc_consistency_laws.proofs.Ahead.{take_ahead}
use Rattle.lrc_world.proofs.world.ends_of.Goals as goal

pub loop-node-preserved : goal.loop-node-preserved
loop-node-preserved c = λ all e.
    let s = stands_at c.args.nodes.now all c.loop-node.node-index c.node-item.result e (omega (arith, c.loop-node-test.true)) c.node-item.is in
    let so_far : c.loop-node.ends.items ≡ map end_of_logged (take c.loop-node.node-index all) = c.loop-node.invariant all e in
    let one : c.end.result ≡ end_of_logged s.0 = c.end.ensures.sound s.0 s.2 in
    let items : c.push.new.self.items ≡ c.loop-node.ends.items ++ c.end.result ∷ [] = search rules in
    let next : c.loop-node.node-index + 1 ≡ suc c.loop-node.node-index = omega arith in
    items ∙ ap (λ xs. xs ++ c.end.result ∷ []) so_far
    ∙ ap (λ x. map end_of_logged (take c.loop-node.node-index all) ++ x ∷ []) one
    ∙ sym (ap (map end_of_logged) (take_ahead all c.loop-node.node-index s.0 s.1) ∙ map-both end_of_logged (take c.loop-node.node-index all) (s.0 ∷ []))
    ∙ ap (λ n. map end_of_logged (take n all)) (sym next)
