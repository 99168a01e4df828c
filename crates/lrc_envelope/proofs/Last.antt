-- The last element of a list that one was added to.
use Rattle.std.proofs.Common.{◌≡◌, ◌∙◌, ℕ, ◌-◌, ◌+◌, ◌<◌, List, [], ◌∷◌, ◌++◌, length, get_or, Some, sym, arith, length-append, inl, inr}
use Rattle.std.specs.Prelude.{slice_get, All, AllPairs}
use Rattle.std.specs.List.Sorted.{IsStrictlyIncreasing}
use Rattle.std.specs.Option.{ForSome}
use Rattle.std.proofs.lemmas.Bool.{cases_lt}
use Rattle.std.proofs.lemmas.List.Kept.{AllPairs-from_increasing}
use Rattle.std.proofs.lemmas.List.Quantifiers.{all_pairs_push}
use Rattle.std.proofs.Math.Seq.{get_or-append_seam}
use Rattle.std.proofs.lemmas.Option.{get_or_from_slice_get, slice_get-get_or}

pub last_pushed : {A : Type 0} (xs : List A) (x y : A) → slice_get (xs ++ x ∷ []) (length (xs ++ x ∷ []) - 1) ≡ Some y → x ≡ y
last_pushed xs x y e =
    let place : length (xs ++ x ∷ []) - 1 ≡ length xs = omega (arith, length-append xs (x ∷ [])) in
    sym (get_or-append_seam xs x [] x) ∙ get_or_from_slice_get (xs ++ x ∷ []) (length xs) y x (rw place at e)

-- where the last of a list that ascends is below, all are
pub last_above : {A : Type 0} (key : A → ℕ) (xs : List A) (n : ℕ) → AllPairs (λ a b. key a < key b) xs
    → ForSome (slice_get xs (length xs - 1)) (λ last. key last < n) → All (λ x. key x < n) xs
last_above {A} key xs n rises below k d within =
    let last : A = get_or xs (length xs - 1) d in
    let last_is : key last < n = below last (slice_get-get_or xs (length xs - 1) d (omega arith)) in
    elim (cases_lt k (length xs - 1)) [
      | inl lt ↦ omega (arith, rises k (length xs - 1) d lt (omega arith), last_is)
      | inr le ↦ let same : k ≡ length xs - 1 = omega arith in rw same last_is
    ]

-- a list that ascends, with a greater number behind it
pub increasing_pushed : (xs : List ℕ) (n : ℕ) → IsStrictlyIncreasing xs → ForSome (slice_get xs (length xs - 1)) (λ last. last < n)
    → IsStrictlyIncreasing (xs ++ n ∷ [])
increasing_pushed xs n rises below =
    let pairs = AllPairs-from_increasing xs rises in
    let more = all_pairs_push (λ (a b : ℕ). a < b) xs n pairs (last_above (λ m. m) xs n pairs below) in
    λ k within. more k (k + 1) 0 (omega arith) within
