-- The elements of a list, and lists that ascend strictly.
use Rattle.std.proofs.Common.{◌≡◌, ◌∙◌, ◌⊎◌, ⊎_elim, ℕ, zero, suc, Bool, true, false, cond, List, [], ◌∷◌, ◌++◌, get_or, Less, Ordering, inl, inr, refl, sym, ap, subst, arith}
use Rattle.std.specs.Prelude.{◌↔◌, Contains}
use Rattle.std.specs.Ordering.{ordering_reverse}
use Rattle.std.specs.Cmp.{IsTotalOrder}
use Rattle.std.specs.List.{AllByRecursion, filter}
use Rattle.std.specs.List.Sorted.{IsStrictlySortedBy}
use Rattle.std.proofs.lemmas.Bool.{true≢false}
use Rattle.std.proofs.lemmas.List.Elements.{All-append, All-contains, All-contains_itself, All-filter, All-from_recursion, Contains-get_or, filter_passes, recursion_from_All}

module _ {X : Type 0} where
  pub Contains-first : (x : X) (xs : List X) → Contains (x ∷ xs) x
  Contains-first x xs = (zero, omega arith, refl)

  pub Contains-later : (x : X) (xs : List X) (y : X) → Contains xs y → Contains (x ∷ xs) y
  Contains-later x xs y in_rest = (suc in_rest.0, omega (arith, in_rest.1), in_rest.2)

  pub cases_Contains : (x : X) (xs : List X) (y : X) → Contains (x ∷ xs) y → (x ≡ y) ⊎ Contains xs y
  cases_Contains x xs y (zero, within, same) = inl same
  cases_Contains x xs y (suc k, within, same) = inr (k, omega arith, same)

  pub none_Contains : (y : X) → Contains [] y → ⊥
  none_Contains y within = omega (arith, within.1)

-- what passes a test is in the list that a filter leaves
module _ {X : Type 0} (test : X → Bool) (y : X) (passes : test y ≡ true) where
  kept_by : (x : X) (xs : List X) (b : Bool) → test x ≡ b → (x ≡ y) ⊎ Contains xs y → (Contains xs y → Contains (filter test xs) y)
      → Contains (cond b (x ∷ filter test xs) (filter test xs)) y
  kept_by x xs true is (inl same) rest = (zero, omega arith, same)
  kept_by x xs true is (inr later) rest = Contains-later x (filter test xs) y (rest later)
  kept_by x xs false is (inl same) rest = absurd (true≢false (sym passes ∙ ap test (sym same) ∙ is))
  kept_by x xs false is (inr later) rest = rest later

  kept : (xs : List X) → Contains xs y → Contains (filter test xs) y
  kept [] there = absurd (none_Contains y there)
  kept (x ∷ xs) there = kept_by x xs (test x) refl (cases_Contains x xs y there) (kept xs)

pub filter-Contains : {X : Type 0} (test : X → Bool) (xs : List X) (y : X) → Contains (filter test xs) y ↔ (Contains xs y × (test y ≡ true))
filter-Contains test xs y = (
  λ there. (
    All-contains (Contains xs) (filter test xs) y (All-filter test (Contains xs) xs (All-contains_itself xs)) there,
    All-contains (λ x. test x ≡ true) (filter test xs) y (filter_passes test xs) there,
  ),
  λ both. kept test y both.1 xs both.0,
)

module _ {X : Type 0} (cmp : X → X → Ordering) where
  -- a list, and behind it one of which every element is above each of its own
  pub joined-ascending : (xs ys : List X) → IsStrictlySortedBy cmp xs → IsStrictlySortedBy cmp ys
      → ((x y : X) → Contains xs x → Contains ys y → cmp x y ≡ Less) → IsStrictlySortedBy cmp (xs ++ ys)
  unfolding IsStrictlySortedBy
  joined-ascending [] ys first second above = second
  joined-ascending (x ∷ xs) ys first second above = (
    recursion_from_All (λ z. cmp x z ≡ Less) (xs ++ ys)
        (All-append (λ z. cmp x z ≡ Less) xs ys (All-from_recursion (λ z. cmp x z ≡ Less) xs first.0)
        (λ k d within. above x (get_or ys k d) (Contains-first x xs) (Contains-get_or ys k d within))),
    joined-ascending xs ys first.1 second (λ a b there here. above a b (Contains-later x xs a there) here),
  )

  below : (x : X) (xs : List X) (y : X) → AllByRecursion (λ z. cmp x z ≡ Less) xs → Contains xs y → cmp x y ≡ Less
  below x [] y all there = absurd (none_Contains y there)
  below x (z ∷ xs) y all there =
      ⊎_elim (λ (here : z ≡ y). ap (cmp x) (sym here) ∙ all.0)
      (λ (later : Contains xs y). below x xs y all.1 later) (cases_Contains z xs y there)

  module _ (total : IsTotalOrder cmp) where
    not_both : (x y : X) → cmp x y ≡ Less → cmp y x ≡ Less → ⊥
    not_both x y first second = let turned : Less ≡ ordering_reverse Less = sym first ∙ total.antisymm x y ∙ ap ordering_reverse second in cc

    -- what stands in the one behind its first stands in the other behind its first
    moved : (x : X) (xs ys : List X) → AllByRecursion (λ z. cmp x z ≡ Less) xs → ((z : X) → Contains (x ∷ xs) z → Contains (x ∷ ys) z)
        → (z : X) → Contains xs z → Contains ys z
    moved x xs ys all into z there =
        let less : cmp x z ≡ Less = below x xs z all there in
        ⊎_elim (λ (same : x ≡ z). absurd (not_both x z less (ap (λ y. cmp y x) (sym same) ∙ ap (cmp x) same ∙ less)))
        (λ (later : Contains ys z). later)
        (cases_Contains x ys z (into z (Contains-later x xs z there)))

    -- lists that ascend and have the same elements are one list
    pub same-lists : (xs ys : List X) → IsStrictlySortedBy cmp xs → IsStrictlySortedBy cmp ys → ((z : X) → Contains xs z → Contains ys z)
        → ((z : X) → Contains ys z → Contains xs z) → xs ≡ ys
    unfolding IsStrictlySortedBy
    same-lists [] [] first second into from = refl
    same-lists [] (y ∷ ys) first second into from = absurd (none_Contains y (from y (Contains-first y ys)))
    same-lists (x ∷ xs) [] first second into from = absurd (none_Contains x (into x (Contains-first x xs)))
    same-lists (x ∷ xs) (y ∷ ys) first second into from =
        let heads : x ≡ y =
        ⊎_elim (λ (same : y ≡ x). sym same)
        (λ (later : Contains ys x).
        ⊎_elim (λ (same : x ≡ y). same)
        (λ (behind : Contains xs y). absurd (not_both x y (below x xs y first.0 behind) (below y ys x second.0 later)))
        (cases_Contains x xs y (from y (Contains-first y ys))))
        (cases_Contains y ys x (into x (Contains-first x xs))) in
        let on : AllByRecursion (λ z. cmp x z ≡ Less) ys = subst (λ y. AllByRecursion (λ z. cmp y z ≡ Less) ys) (sym heads) second.0 in
        let tails : xs ≡ ys =
        same-lists xs ys first.1 second.1
        (moved x xs ys first.0 (λ z there. subst (λ y. Contains (y ∷ ys) z) (sym heads) (into z there)))
        (moved x ys xs on (λ z there. from z (subst (λ y. Contains (y ∷ ys) z) heads there))) in
        ap (λ y. y ∷ xs) heads ∙ ap (λ ys. y ∷ ys) tails
