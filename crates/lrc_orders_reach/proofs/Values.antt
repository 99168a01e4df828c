-- Ranges of names, one after another.
use Rattle.std.proofs.Common.{◌≡◌, ◌+◌, ◌<◌, ℕ, List, inl, inr, length, get_or, set, sym, subst, arith}
use Rattle.std.specs.Prelude.{Some, slice_get}
use Rattle.std.proofs.lemmas.Bool.{cases_lt}
use Rattle.std.proofs.lemmas.Option.{get_or_from_slice_get, slice_get-get_or, slice_get_within}
use Rattle.lrc_ranges.specs.declared.range.Range.{Range}
use Rattle.lrc_ranges.specs.Ranges.{AreIn, IsIn, IsWithin}
use Rattle.lrc_ranges.proofs.Names.{range_at}

-- the values of the first names lie in their ranges
abbrev pub AreInUpTo : ℕ → List Range → List ℕ → Type 0
AreInUpTo count names values = (k : ℕ) (range : Range) → k < count → slice_get names k ≡ Some range → IsIn range (get_or values k 0)

pub one_more_in : (count : ℕ) (names : List Range) (values : List ℕ) (range : Range) → AreInUpTo count names values → IsIn range (get_or values count 0)
    → AreInUpTo (count + 1) (set names count range) values
one_more_in count names values range are is k r below at = elim (range_at names count k range r at) [
  | inl p ↦ subst (λ x. IsIn x (get_or values k 0)) p.1 (subst (λ n. IsIn range (get_or values n 0)) (sym p.0) is)
  | inr p ↦ are k r (elim (cases_lt k count) [
    | inl lt ↦ lt
    | inr le ↦ absurd (p.0 (omega (arith, le, below)))
  ]) p.1
]

-- the ranges of the first names lie in those others
abbrev pub AreWithinUpTo : ℕ → (inner outer : List Range) → Type 0
AreWithinUpTo count inner outer =
    (k : ℕ) (x y : Range) → k < count → slice_get inner k ≡ Some x → slice_get outer k ≡ Some y → IsWithin x y

pub one_more_within : (count : ℕ) (inner outer : List Range) (d e : Range) → AreWithinUpTo count inner outer
    → IsWithin (get_or inner count d) (get_or outer count e) → AreWithinUpTo (count + 1) inner outer
one_more_within count inner outer d e are is k x y below at there = elim (cases_lt k count) [
  | inl lt ↦ are k x y lt at there
  | inr le ↦
      let same : k ≡ count = omega (arith, le, below) in
      let own : get_or inner count d ≡ x = get_or_from_slice_get inner count x d (subst (λ n. slice_get inner n ≡ Some x) same at) in
      let other : get_or outer count e ≡ y = get_or_from_slice_get outer count y e (subst (λ n. slice_get outer n ≡ Some y) same there) in
      subst (λ r. IsWithin r y) own (subst (IsWithin (get_or inner count d)) other is)
]

-- if all ranges lie in others, so do the values
pub all_within : (inner outer : List Range) (values : List ℕ) → length inner ≡ length outer → AreWithinUpTo (length outer) inner outer → AreIn inner values
    → AreIn outer values
all_within inner outer values even within are k y at =
    let below : k < length outer = slice_get_within outer k y at in
    let there = slice_get-get_or inner k y (omega (arith, below, even)) in
    within k (get_or inner k y) y below there at (get_or values k 0) (are k (get_or inner k y) there)
