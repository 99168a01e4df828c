-- How many blanks a line begins with, counted one by one.
use Rattle.std.proofs.Common.{◌≡◌, ◌∙◌, ◌+◌, ◌<◌, ◌≤◌, ℕ, zero, suc, List, [], ◌∷◌, ap, arith, drop, get_or, length, refl, sym, add-one}
use Rattle.std.specs.Prelude.{Bool, cond}
use Rattle.std.proofs.Common.{◌≢◌, eq-eqb, ne_eqb}
use Rattle.lrc_chart_svg.specs.Source.{blanks}

-- one more, at a blank
one_at : (words : List ℕ) (i : ℕ) → i < length words → get_or words i 0 ≡ 32 → blanks (drop i words) ≡ blanks (drop (suc i) words) + 1
one_at (first ∷ more) zero within is = ap (λ (b : Bool). cond b (blanks more + 1) 0) (eq-eqb first 32 is)
one_at (first ∷ more) (suc i) within is = one_at more i (omega (arith, within)) is
one_at [] i within is = absurd (omega (arith, within))

pub one_blank : (words : List ℕ) (i : ℕ) → i < length words → get_or words i 0 ≡ 32 → blanks (drop i words) ≡ blanks (drop (i + 1) words) + 1
one_blank words i within is = one_at words i within is ∙ ap (λ (k : ℕ). blanks (drop k words) + 1) (sym (add-one i))

-- none at another sign, or past the last one
pub no_blank : (words : List ℕ) (i : ℕ) → i < length words → get_or words i 0 ≢ 32 → blanks (drop i words) ≡ 0
no_blank (first ∷ more) zero within is = ap (λ (b : Bool). cond b (blanks more + 1) 0) (ne_eqb first 32 is)
no_blank (first ∷ more) (suc i) within is = no_blank more i (omega (arith, within)) is
no_blank [] i within is = absurd (omega (arith, within))

pub past_blanks : (words : List ℕ) (i : ℕ) → length words ≤ i → blanks (drop i words) ≡ 0
past_blanks [] zero within = refl
past_blanks [] (suc i) within = refl
past_blanks (first ∷ more) zero within = absurd (omega (arith, within))
past_blanks (first ∷ more) (suc i) within = past_blanks more i (omega (arith, within))
