-- What is found among the items of a list that a loop has not passed.
use Rattle.std.proofs.Common.{◌≡◌, ◌∙◌, ◌<◌, ◌≤◌, ◌+◌, ◌||◌, ℕ, Bool, ap, sym, List, length, map, drop, get_or}
use Rattle.std.specs.Prelude.{true, false}
use Rattle.std.specs.List.{enumerate_from, list_any}
use Rattle.std.proofs.lemmas.List.{drop_all, drop_more}

module _ {A S : Type 0} (seen : A → S) (test : S → Bool) (items : List A) (i : ℕ) where
  pub from_here : (d : A) → i < length items
      → list_any test (map seen (drop i items)) ≡ (test (seen (get_or items i d)) || list_any test (map seen (drop (i + 1) items)))
  from_here d lt = ap (λ (l : List A). list_any test (map seen l)) (drop_more items i d lt)

  pub any_here : (d : A) (all : Bool) → i < length items → all ≡ list_any test (map seen (drop i items)) → test (seen (get_or items i d)) ≡ true → true ≡ all
  any_here d all lt is holds = sym (is ∙ from_here d lt ∙ ap (λ (b : Bool). b || list_any test (map seen (drop (i + 1) items))) holds)

  pub any_later : (d : A) (all : Bool) → i < length items → all ≡ list_any test (map seen (drop i items)) → test (seen (get_or items i d)) ≡ false
      → all ≡ list_any test (map seen (drop (i + 1) items))
  any_later d all lt is fails = is ∙ from_here d lt ∙ ap (λ (b : Bool). b || list_any test (map seen (drop (i + 1) items))) fails

  pub any_nowhere : (all : Bool) → length items ≤ i → all ≡ list_any test (map seen (drop i items)) → false ≡ all
  any_nowhere all past is = sym (is ∙ ap (λ (l : List A). list_any test (map seen l)) (drop_all i items past))

-- the same, of items with their numbers
module _ {A S : Type 0} (seen : A → S) (test : ℕ × S → Bool) (items : List A) (i : ℕ) where
  abbrev pub rest_from : ℕ → Bool
  rest_from k = list_any test (enumerate_from k (map seen (drop k items)))

  pub numbered_here : (d : A) → i < length items → rest_from i ≡ (test (i, seen (get_or items i d)) || rest_from (i + 1))
  numbered_here d lt = ap (λ (l : List A). list_any test (enumerate_from i (map seen l))) (drop_more items i d lt)
