use Rattle.std.proofs.Common.{ℕ, List, ◌≡◌, ◌∙◌, ◌++◌, ap, sym, append_assoc, get_or, take}
use Rattle.std.specs.Prelude.{slice_index}
use Rattle.lrc_text.proofs.Each.{each_more}
use Rattle.lrc_text.specs.Each.{each}
use Rattle.lrc_why_lines.specs.Ordered.{step_line}
use Rattle.lrc_why_lines.proofs.relation.push_steps.Goals as goal

pub loop-k-preserved : goal.loop-k-preserved
loop-k-preserved c =
    let of : ℕ → ℕ → List ℕ = λ k to. step_line c.args.shown (slice_index c.args.chain.now k) to in
    let items = c.behind_first-steps.result.now in
    let at = c.loop-k.k in
    let old = c.args.text.now.items in
    c.in_ok-push_step.ensures ∙ ap (λ l. l ++ of at (get_or items at 0)) c.loop-k.invariant
    ∙ append_assoc old (each of (take at items)) (of at (get_or items at 0)) ∙ ap (λ l. old ++ l) (sym (each_more of items at 0 c.loop-k-test.true))
