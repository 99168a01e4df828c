use Rattle.std.proofs.Common.{◌≡◌, ℕ, ◌+◌, take, cond, get_or, sym, subst, ap, ◌∙◌}
use Rattle.std.specs.Prelude.{List, None}
use Rattle.lrc_exact.specs.Rule.{change_of}
use Rattle.lrc_exact_copies.specs.declared.made.Change.{Change}
use Rattle.lrc_exact_copies.specs.Copies.{before_of, word_in}
use Rattle.lrc_exact_copies.specs.Made.{change_in, has}
use Rattle.lrc_exact_copies.proofs.Changed.{step-changed, step-silent, step-closed}
use Rattle.lrc_exact_copies.proofs.changes.changes_of.Goals as goal
use Rattle.lrc_exact_copies.proofs.changes.changes_of.Goals.{then-held-index+then-held+in_ok-push, else-held-index, else-held-index-via-then-held-index+else-held, else-held-index-via-else-held-index}

pub loop-word-preserved : goal.loop-word-preserved
loop-word-preserved c =
    let all = c.args.words_written.now in
    let i = c.loop-word.word-index in
    let held = c.word_at-held.result in
    let words = word_in c.args.words.now in
    let index = c.args.index in
    let xs = c.loop-word.changes.items in
    let is : held ≡ words (get_or all i 0) = c.word_at-held.ensures ∙ ap words c.from.ensures in
    elim c.if-held-index.branch [
      | then-held-index+then-held+in_ok-push w ↦
          subst (λ (ys : List Change). (q : ℕ) → change_in ys q ≡ cond (has (take (i + 1) all) q) (change_of (before_of index (words q)) (words q).value) None)
          (sym (ap (λ v. v.items) w.changes-is ∙ w.in_ok-push.ensures.items))
          (step-changed index words all i c.loop-word-test.true held is xs w.if-held-index.true w.if-held.true c.loop-word.invariant)
      | else-held-index w ↦
          subst (λ (ys : List Change). (q : ℕ) → change_in ys q ≡ cond (has (take (i + 1) all) q) (change_of (before_of index (words q)) (words q).value) None)
          (sym (ap (λ v. v.items) w.changes-is))
          (elim w.else-held-index.branch [
            | else-held-index-via-then-held-index+else-held v ↦
                step-silent index words all i c.loop-word-test.true held is xs v.if-held-index.true v.if-held.false c.loop-word.invariant
            | else-held-index-via-else-held-index v ↦
                step-closed index words all i c.loop-word-test.true held is xs v.if-held-index.false c.loop-word.invariant
          ])
    ]
