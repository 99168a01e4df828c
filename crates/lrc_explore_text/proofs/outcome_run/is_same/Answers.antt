use Rattle.std.proofs.Common.{◌≡◌, ◌∙◌, sym, rules}
use Rattle.std.specs.Prelude.{nat_eq}
use Rattle.std.specs.Cmp.Lexicographic.{pointwise}
use Rattle.std.proofs.lemmas.Bool.{eqb-true}
use Rattle.lrc_orders.proofs.KeptAlike.{equal_items, nat_itself}
use Rattle.lrc_orders.proofs.Same.{pointwise_same}
use Rattle.lrc_explore_text.proofs.outcome_run.is_same.Goals as goal

pub returns : goal.returns
returns c =
    let one = c.args.one.now in
    let other = c.args.other.now in
    let is : c.eq.result ≡ pointwise nat_eq one other = search rules in
    (λ holds. pointwise_same nat_eq (λ m n h. eqb-true m n h) one other (sym is ∙ holds), λ equal. is ∙ equal_items nat_eq nat_itself one other equal)
