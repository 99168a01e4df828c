use Rattle.std.proofs.Common.{◌≡◌, ℕ, ◌+◌, subst, ap, ◌∙◌, cond}
use Rattle.std.specs.Prelude.{None, slice_set}
use Rattle.lrc_time.specs.Time.{entry, weight_of}
use Rattle.lrc_exact.specs.Rule.{change_of}
use Rattle.lrc_exact_copies.specs.Copies.{before_of, word_in}
use Rattle.lrc_exact_copies.specs.Made.{change_in, has}
use Rattle.lrc_exact_copies.proofs.Copying.{interval-is}
use Rattle.lrc_exact_copies.proofs.copy.NodeCopy.close.Goals as goal

pub returns-clause-made : goal.returns-clause-made
returns-clause-made c = λ shape a l state old.
    let self = c.args.self.now in
    let index : c.at-index.result + 1 ≡ entry self.time c.args.node + 1 = ap (λ n. n + 1) c.at-index.ensures in
    let changes = c.in_ok-changes.changes in
    let told : (w : ℕ) → change_in changes.items w
    ≡ cond (has self.open_words.items w) (change_of (before_of (c.at-index.result + 1) (word_in self.words w)) (word_in self.words w).value) None =
    subst (λ xs. (w : ℕ) → change_in changes.items w
    ≡ cond (has xs w) (change_of (before_of (c.at-index.result + 1) (word_in self.words w)) (word_in self.words w).value) None)
    c.deref.ensures.value c.in_ok-changes.ensures in
    interval-is old c.requires.in_range
    (record { weight = c.weight-weight.result; changes = changes; pages = c.replace-pages.result })
    (c.weight-weight.ensures ∙ ap weight_of (c.raise.ensures ∙ ap (slice_set self.time c.args.node) index))
    (subst (λ n. (w : ℕ) → change_in changes.items w
    ≡ cond (has self.open_words.items w) (change_of (before_of n (word_in self.words w)) (word_in self.words w).value) None) index told)
    (ap (λ v. v.items) c.replace-pages.ensures.value)
