-- What sorting pairs and taking out equal neighbours leaves.
use Rattle.std.proofs.Common.{◌≡◌, List, sym}
use Rattle.std.specs.Prelude.{◌↔◌, ◌&&◌, ◌==◌, Bool, true, Contains}
use Rattle.std.specs.Ordering.{eq_by_cmp}
use Rattle.std.specs.Cmp.{IsTotalOrder}
use Rattle.std.specs.List.{dedup}
use Rattle.std.specs.List.Sorted.{IsSorted, IsStrictlySortedBy, IsPermutation}
use Rattle.std.proofs.lemmas.Bool.{and_parts, eqb-true}
use Rattle.std.proofs.lemmas.Cmp.{nat_cmp_total, on_total, then_total}
use Rattle.lrc_judge.specs.declared.lanes.Pair.{Pair}
use Rattle.lrc_judge.specs.Pairs.{pair_cmp}
use Rattle.lrc_judge.proofs.Ascending.{is_eq-then, is_eq-nat}
use Rattle.lrc_judge.proofs.Distinct.{distinct-ascending, distinct-contains}

-- whether two pairs agree in both fields
abbrev pub pair_eq : Pair → Pair → Bool
pair_eq a b = (a.later == b.later) && (a.earlier == b.earlier)

pub pair_eq-cmp : (a b : Pair) → pair_eq a b ≡ eq_by_cmp pair_cmp a b
pair_eq-cmp a b = sym (simp (is_eq-then, is_eq-nat))

pub pair_total : IsTotalOrder pair_cmp
pair_total = then_total (on_total (λ (p : Pair). p.later) nat_cmp_total) (on_total (λ (p : Pair). p.earlier) nat_cmp_total)

-- pairs that agree in both fields are one
pair_eq-exact : (a b : Pair) → pair_eq a b ≡ true → a ≡ b
pair_eq-exact a b h =
    let (laters, earliers) = and_parts (a.later == b.later) _ h in
    let w : a.later ≡ b.later = eqb-true a.later b.later laters in
    let p : a.earlier ≡ b.earlier = eqb-true a.earlier b.earlier earliers in
    let e : ◌≡◌ {A = Pair} (record { later = a.later; earlier = a.earlier }) (record { later = b.later; earlier = b.earlier }) = cc in e

-- a list, sorted, and then without equal neighbours
module _ (xs sorted unique : List Pair) (permutation : IsPermutation xs sorted) (in_order : IsSorted pair_cmp sorted)
    (is : unique ≡ dedup pair_eq sorted) where
  pub unique-ascending : IsStrictlySortedBy pair_cmp unique
  unique-ascending = distinct-ascending pair_cmp pair_eq pair_total pair_eq-cmp sorted unique in_order is

  pub unique-contains : (pair : Pair) → Contains unique pair ↔ Contains xs pair
  unique-contains = distinct-contains pair_cmp pair_eq pair_total pair_eq-cmp pair_eq-exact xs sorted unique permutation is
