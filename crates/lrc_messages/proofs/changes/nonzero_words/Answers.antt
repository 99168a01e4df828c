use Rattle.std.proofs.Common.{◌≡◌, ◌∙◌, ℕ, List, ap, length, subst}
use Rattle.std.specs.Prelude.{IfOk}
use Rattle.std.proofs.lemmas.List.{length-replicate}
use Rattle.lrc_page.specs.Changes.{changes_between}
use Rattle.lrc_messages.proofs.Zeros.{zeros_are}
use Rattle.lrc_messages.proofs.changes.nonzero_words.Goals as goal

pub between-requires : goal.between-requires
between-requires c =
    ap length (c.zero.ensures ∙ zeros_are c.size.result c.args.page.now c.size.ensures) ∙ length-replicate {A = ℕ} (length c.args.page.now) 0

pub returns : goal.returns
returns c =
    subst (λ (zeros : List ℕ). IfOk c.between.result (λ changes. changes ≡ changes_between zeros c.args.page.now))
    (c.zero.ensures ∙ zeros_are c.size.result c.args.page.now c.size.ensures) c.between.ensures.exact
