use Rattle.std.proofs.Common.{◌≡◌, ◌⊎◌, ◌∙◌, ◌++◌, ap, subst, sym}
use Rattle.std.specs.Prelude.{◌↔◌, Contains}
use Rattle.lrc_lazy_known.specs.Tidy.{IsRising}
use Rattle.lrc_lazy_known.proofs.word.values_with.Goals as goal

pub returns-clause-values : goal.returns-clause-values
returns-clause-values c = λ v.
    subst (λ l. Contains c.with_value.new.values.items v ↔ (Contains l v ⊎ (v ≡ c.args.value)))
    (c.in_ok-extend_from_slice.ensures.items ∙ ap (λ l. l ++ c.args.values.now) c.in_ok-all.ensures.items) (c.in_ok-with_value.ensures.values v)

pub returns-clause-rising : goal.returns-clause-rising
returns-clause-rising c = λ up.
    c.in_ok-with_value.ensures.rising
    (subst IsRising (sym (c.in_ok-extend_from_slice.ensures.items ∙ ap (λ l. l ++ c.args.values.now) c.in_ok-all.ensures.items)) up)
