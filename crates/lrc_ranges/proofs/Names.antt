-- Ranges of names, where that of one name becomes another.
use Rattle.std.proofs.Common.{◌≡◌, ◌∙◌, ◌<◌, ◌⊎◌, ℕ, List, inl, inr, length, get_or, set, sym, ap, subst, arith}
use Rattle.std.specs.Prelude.{Some, slice_get}
use Rattle.std.proofs.lemmas.Bool.{cases_eq}
use Rattle.std.proofs.lemmas.Grind.{get_or-set_at}
use Rattle.std.proofs.lemmas.List.{get_or-set_other, length-set}
use Rattle.std.proofs.lemmas.Option.{get_or_from_slice_get, slice_get-get_or, slice_get_within}
use Rattle.lrc_ranges.specs.declared.range.Range.{Range}
use Rattle.lrc_ranges.specs.Ranges.{AreIn, IsIn}

-- the range of a name
pub range_at : (names : List Range) (name k : ℕ) (range r : Range) → slice_get (set names name range) k ≡ Some r
    → ((k ≡ name) × (range ≡ r)) ⊎ ((k ≡ name → ⊥) × (slice_get names k ≡ Some r))
range_at names name k range r at =
    let within : k < length names = omega (arith, slice_get_within (set names name range) k r at, length-set names name range) in
    let here : get_or (set names name range) k range ≡ r = get_or_from_slice_get (set names name range) k r range at in
    elim (cases_eq k name) [
      | inl same ↦ inl (same, sym (get_or-set_at names name k range range same (omega (arith, within, same))) ∙ here)
      | inr apart ↦ inr (apart, slice_get-get_or names k range within ∙ ap Some (sym (get_or-set_other names name k range range apart) ∙ here))
    ]

-- another range that has the value too
pub names_set : (names : List Range) (values : List ℕ) (name : ℕ) (range : Range) → AreIn names values → IsIn range (get_or values name 0)
    → AreIn (set names name range) values
names_set names values name range are is k r at = elim (range_at names name k range r at) [
  | inl p ↦ subst (λ x. IsIn x (get_or values k 0)) p.1 (subst (λ n. IsIn range (get_or values n 0)) (sym p.0) is)
  | inr p ↦ are k r p.1
]

-- a range that has the value that the name gets
pub both_set : (names : List Range) (values : List ℕ) (name : ℕ) (range : Range) (value : ℕ) → name < length values → AreIn names values
    → IsIn range value → AreIn (set names name range) (set values name value)
both_set names values name range value within are is k r at = elim (range_at names name k range r at) [
  | inl p ↦
      subst (λ x. IsIn x (get_or (set values name value) k 0)) p.1
      (subst (IsIn range) (sym (get_or-set_at values name k value 0 p.0 within)) is)
  | inr p ↦ subst (IsIn r) (sym (get_or-set_other values name k value 0 p.0)) (are k r p.1)
]
