-- A name that is looked for among the names of a trace.
use Rattle.std.proofs.Common.{◌≡◌, ◌≢◌, ℕ, zero, suc, ◌<◌, ◌≤◌, List, [], ◌∷◌, length, take, inl, inr, refl, sym, ◌∙◌, arith}
use Rattle.std.specs.Prelude.{Some, AllPairs, Contains, slice_get}
use Rattle.std.proofs.lemmas.Bool.{cases_order}
use Rattle.std.proofs.lemmas.List.{take-append-le, length_push}
use Rattle.std.proofs.lemmas.Option.{slice_get_within, get_or_from_slice_get}
use Rattle.lrc_races_lines.specs.Table.{IsNumbered, met, new}
use Rattle.lrc_races_claims.specs.Known.{IsUnknown, IsOnlyNumber}

-- ---- places in a front

slice_get-take : {X : Type 0} (xs : List X) (n k : ℕ) (x : X) → k < n → slice_get xs k ≡ Some x → slice_get (take n xs) k ≡ Some x
slice_get-take [] n k x lt e = let never : ⊥ = cc in absurd never
slice_get-take (y ∷ xs) zero k x lt e = absurd (omega arith)
slice_get-take (y ∷ xs) (suc n) zero x lt e = e
slice_get-take (y ∷ xs) (suc n) (suc k) x lt e = slice_get-take xs n k x (omega arith) e

take-slice_get : {X : Type 0} (xs : List X) (n k : ℕ) (x : X) → slice_get (take n xs) k ≡ Some x → (k < n) × (slice_get xs k ≡ Some x)
take-slice_get [] zero k x e = let never : ⊥ = cc in absurd never
take-slice_get [] (suc n) k x e = let never : ⊥ = cc in absurd never
take-slice_get (y ∷ xs) zero k x e = let never : ⊥ = cc in absurd never
take-slice_get (y ∷ xs) (suc n) zero x e = (omega arith, e)
take-slice_get (y ∷ xs) (suc n) (suc k) x e = let (lt, is) = take-slice_get xs n k x e in (omega arith, is)

-- ---- of distinct names each has one number

only_one : (names : List (List ℕ)) → AllPairs (λ x y. x ≢ y) names → (name : List ℕ) (k l : ℕ) → slice_get names k ≡ Some name → slice_get names l ≡ Some name
    → l ≡ k
only_one names distinct name k l at at' =
    let within = slice_get_within names k name at in
    let within' = slice_get_within names l name at' in
    let e = get_or_from_slice_get names k name name at in
    let e' = get_or_from_slice_get names l name name at' in
    elim (cases_order l k) [
      | inl same ↦ same
      | inr (inl less) ↦ absurd (distinct l k name less within (e' ∙ sym e))
      | inr (inr more) ↦ absurd (distinct k l name more within' (e ∙ sym e'))
    ]

-- ---- a number that a table gives

pub kept : {before after : List (List ℕ)} {name : List ℕ} {number : ℕ} (known : ℕ) → known ≤ length before → IsNumbered before name after number
    → take known after ≡ take known before
kept known within (met is) = refl
kept {before} {after} {name} known within (new none) = take-append-le known before (name ∷ []) within

pub longer : {before after : List (List ℕ)} {name : List ℕ} {number : ℕ} → IsNumbered before name after number → length before ≤ length after
longer (met is) = omega arith
longer {before} {after} {name} (new none) = let more = length_push before name in omega arith

contained : (names : List (List ℕ)) (name : List ℕ) (k : ℕ) → slice_get names k ≡ Some name → Contains names name
contained names name k e = (k, slice_get_within names k name e, get_or_from_slice_get names k name name e)

pub found : {before after : List (List ℕ)} {name : List ℕ} {number : ℕ} (known : ℕ) → IsNumbered before name after number → known ≤ length before
    → AllPairs (λ x y. x ≢ y) after → number < known → IsOnlyNumber (take known before) name number
found {before} {name = name} {number = number} known (met is) within distinct lt = record {
  is = record { at = slice_get-take before known number name lt is };
  only = λ other numbers.
      let (below, at) = take-slice_get before known other name numbers.at in
      only_one before distinct name number other is at;
}
found known (new none) within distinct lt = absurd (omega arith)

pub unfound : {before after : List (List ℕ)} {name : List ℕ} {number : ℕ} (known : ℕ) → IsNumbered before name after number → known ≤ length before
    → AllPairs (λ x y. x ≢ y) after → known ≤ number → IsUnknown (take known before) name
unfound {before} {name = name} {number = number} known (met is) within distinct le other numbers =
    let (below, at) = take-slice_get before known other name numbers.at in
    let same = only_one before distinct name number other is at in
    omega arith
unfound {before} {name = name} known (new none) within distinct le other numbers =
    let (below, at) = take-slice_get before known other name numbers.at in
    none (contained before name other at)
