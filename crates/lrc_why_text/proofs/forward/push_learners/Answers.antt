use Rattle.std.proofs.Common.{rules, ◌≡◌, ◌∙◌, ◌++◌, ap, sym, append_assoc, get_or, take}
use Rattle.lrc_text.proofs.Each.{each_more}
use Rattle.lrc_text.specs.Each.{each}
use Rattle.lrc_why_text.specs.Learning.{learner_text}
use Rattle.lrc_why_text.proofs.forward.push_learners.Goals as goal

pub loop-node-preserved : goal.loop-node-preserved
loop-node-preserved c =
    let of = learner_text c.args.shown in
    let items = c.args.learners.now in
    let at = c.loop-node.node in
    let x = c.index-learners-node.result in
    let old = c.args.text.now.items in
    let read : x ≡ get_or items at x = search rules in
    c.in_ok-push_learner.ensures ∙ ap (λ y. c.loop-node.text.items ++ of at y) read ∙ ap (λ l. l ++ of at (get_or items at x)) c.loop-node.invariant
    ∙ append_assoc old (each of (take at items)) (of at (get_or items at x)) ∙ ap (λ l. old ++ l) (sym (each_more of items at x c.loop-node-test.true))
