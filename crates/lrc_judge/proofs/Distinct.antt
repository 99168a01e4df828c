-- What sorting a list and taking out equal neighbours leaves.
use Rattle.std.proofs.Common.{◌≡◌, List, sym, subst, ◌∙◌}
use Rattle.std.specs.Prelude.{◌↔◌, Bool, true, Contains}
use Rattle.std.specs.declared.cmp.Ordering.{Ordering}
use Rattle.std.specs.Ordering.{eq_by_cmp}
use Rattle.std.specs.Cmp.{IsTotalOrder, IsEquivalence, eq_by_cmp_equiv}
use Rattle.std.specs.List.{dedup}
use Rattle.std.specs.List.Sorted.{IsSorted, IsStrictlySortedBy, IsPermutation}
use Rattle.std.proofs.lemmas.List.Kept.{IsStrictlySortedBy-dedup, Contains-dedup, Contains-from_dedup}
use Rattle.std.proofs.lemmas.List.Sorted.{Contains-permutation, IsPermutation-sym}

-- a test that agrees with an order
module _ {X : Type 0} (cmp : X → X → Ordering) (eq : X → X → Bool) (total : IsTotalOrder cmp) (agrees : (a b : X) → eq a b ≡ eq_by_cmp cmp a b) where
  equivalence : IsEquivalence eq
  equivalence =
      let e = eq_by_cmp_equiv total in
      record {
        refl = λ x. agrees x x ∙ e.refl x;
        symm = λ x y. agrees x y ∙ e.symm x y ∙ sym (agrees y x);
        congr = λ x y z h. agrees x z ∙ e.congr x y z (sym (agrees x y) ∙ h) ∙ sym (agrees y z);
      }

  pub distinct-ascending : (sorted unique : List X) → IsSorted cmp sorted → unique ≡ dedup eq sorted → IsStrictlySortedBy cmp unique
  distinct-ascending sorted unique in_order is =
      subst (λ zs. IsStrictlySortedBy cmp zs) (sym is) (IsStrictlySortedBy-dedup total agrees sorted in_order)

  pub distinct-contains : ((a b : X) → eq a b ≡ true → a ≡ b) → (xs sorted unique : List X) → IsPermutation xs sorted → unique ≡ dedup eq sorted
      → (x : X) → Contains unique x ↔ Contains xs x
  distinct-contains exact xs sorted unique permutation is x = (
    λ h. Contains-permutation sorted xs x (IsPermutation-sym xs sorted permutation)
        (Contains-from_dedup eq sorted x (subst (λ zs. Contains zs x) is h)),
    λ h. subst (λ zs. Contains zs x) (sym is) (Contains-dedup equivalence exact sorted x (Contains-permutation xs sorted x permutation h)),
  )
