-- What holds of all items of a list, once one is put to it.
use Rattle.std.proofs.Common.{◌≡◌, ℕ, ◌+◌, List, [], ◌∷◌, ◌++◌, Bool, true, false, inl, inr}
use Rattle.std.proofs.Common.{length, sym, subst, ◌∙◌, ap, arith}
use Rattle.std.specs.Prelude.{Some, slice_get, if◌then◌else◌}
use Rattle.std.proofs.lemmas.Bool.{cases_lt}
use Rattle.std.proofs.lemmas.List.{length_push}
use Rattle.std.proofs.lemmas.Option.{same_Some, slice_get_within}
use Rattle.lrc_trace.proofs.Positions.{slice_get-front, slice_get-seam}

-- where an item is put to a list, or it stays, what holds of the old ones at their places, and of the item at the end, holds of all
pub put_all : {A : Type 0} (P : ℕ → A → Type 0) (b : Bool) (old new : List A) (x : A) → new ≡ (if b then old else old ++ x ∷ [])
    → ((k : ℕ) (y : A) → slice_get old k ≡ Some y → P k y) → P (length old) x → (k : ℕ) (y : A) → slice_get new k ≡ Some y → P k y
put_all P true old new x is before last k y at = before k y (ap (λ l. slice_get l k) (sym is) ∙ at)
put_all P false old new x is before last k y at = elim (cases_lt k (length old)) [
  | inl lt ↦ before k y (sym (slice_get-front old (x ∷ []) k lt) ∙ ap (λ l. slice_get l k) (sym is) ∙ at)
  | inr le ↦
      let within = slice_get_within new k y at in
      let long = ap length is ∙ length_push old x in
      let end : k ≡ length old = omega arith in
      let seam : slice_get new k ≡ Some x = ap (λ l. slice_get l k) is ∙ ap (slice_get (old ++ x ∷ [])) end ∙ slice_get-seam old x [] in
      let same : x ≡ y = same_Some x y (sym seam ∙ at) in
      subst (λ n. P n y) (sym end) (subst (P (length old)) same last)
]
