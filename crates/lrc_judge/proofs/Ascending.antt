-- What sorting races and taking out equal neighbours leaves.
use Rattle.std.proofs.Common.{◌≡◌, ℕ, List, refl, sym, inl, inr, arith}
use Rattle.std.specs.Prelude.{◌↔◌, ◌&&◌, ◌==◌, Bool, true, Contains}
use Rattle.std.specs.declared.cmp.Ordering.{Ordering}
use Rattle.std.specs.declared.cmp.Ordering.TheVariants.{Less, Equal, Greater}
use Rattle.std.specs.Ordering.{nat_cmp, ordering_then, is_eq, eq_by_cmp}
use Rattle.std.specs.Cmp.{IsTotalOrder}
use Rattle.std.specs.List.{dedup}
use Rattle.std.specs.List.Sorted.{IsSorted, IsStrictlySortedBy, IsPermutation}
use Rattle.std.proofs.lemmas.Bool.{cases_lt, cases_eq, and_parts, lt-ltb, le-ltb, ne_eqb, eq-eqb, eqb-true}
use Rattle.std.proofs.lemmas.Cmp.{nat_cmp_total, on_total, then_total}
use Rattle.lrc_trace.specs.declared.race.Race.{Race}
use Rattle.lrc_judge.specs.Races.{race_cmp}
use Rattle.lrc_judge.proofs.Distinct.{distinct-ascending, distinct-contains}

-- whether two races agree in every field
abbrev pub race_eq : Race → Race → Bool
race_eq a b = (a.word == b.word) && ((a.node_a == b.node_a) && ((a.node_b == b.node_b) && ((a.interval_a == b.interval_a) && (a.interval_b == b.interval_b))))

pub is_eq-then : (o p : Ordering) → is_eq (ordering_then o p) ≡ (is_eq o && is_eq p)
is_eq-then Less p = refl
is_eq-then Equal p = refl
is_eq-then Greater p = refl

pub is_eq-nat : (m n : ℕ) → is_eq (nat_cmp m n) ≡ (m == n)
is_eq-nat m n =
    elim (cases_lt m n) [
      | inl below ↦ rw (lt-ltb m n below) (sym (ne_eqb m n (λ e. omega arith)))
      | inr le ↦
          elim (cases_eq m n) [
            | inl same ↦ rw (le-ltb m n le, eq-eqb m n same) refl
            | inr other ↦ rw (le-ltb m n le, ne_eqb m n other) refl
          ]
    ]

pub race_eq-cmp : (a b : Race) → race_eq a b ≡ eq_by_cmp race_cmp a b
race_eq-cmp a b = sym (simp (is_eq-then, is_eq-nat))

pub race_total : IsTotalOrder race_cmp
race_total = then_total (on_total (λ (r : Race). r.word) nat_cmp_total)
    (then_total (on_total (λ (r : Race). r.node_a) nat_cmp_total)
    (then_total (on_total (λ (r : Race). r.node_b) nat_cmp_total)
    (then_total (on_total (λ (r : Race). r.interval_a) nat_cmp_total) (on_total (λ (r : Race). r.interval_b) nat_cmp_total))))

-- races that agree in every field are one
pub race_eq-exact : (a b : Race) → race_eq a b ≡ true → a ≡ b
race_eq-exact a b h =
    let (words, h1) = and_parts (a.word == b.word) _ h in
    let (nodes_a, h2) = and_parts (a.node_a == b.node_a) _ h1 in
    let (nodes_b, h3) = and_parts (a.node_b == b.node_b) _ h2 in
    let (intervals_a, intervals_b) = and_parts (a.interval_a == b.interval_a) _ h3 in
    let w : a.word ≡ b.word = eqb-true a.word b.word words in
    let p : a.node_a ≡ b.node_a = eqb-true a.node_a b.node_a nodes_a in
    let q : a.node_b ≡ b.node_b = eqb-true a.node_b b.node_b nodes_b in
    let i : a.interval_a ≡ b.interval_a = eqb-true a.interval_a b.interval_a intervals_a in
    let j : a.interval_b ≡ b.interval_b = eqb-true a.interval_b b.interval_b intervals_b in
    let e : ◌≡◌ {A = Race} (record {
      word = a.word;
      node_a = a.node_a;
      node_b = a.node_b;
      interval_a = a.interval_a;
      interval_b =
          a.interval_b;
    }) (record { word = b.word; node_a = b.node_a; node_b = b.node_b; interval_a = b.interval_a; interval_b = b.interval_b }) = cc in e

-- a list, sorted, and then without equal neighbours
module _ (xs sorted unique : List Race) (permutation : IsPermutation xs sorted) (in_order : IsSorted race_cmp sorted) (is : unique ≡ dedup race_eq sorted) where
  pub unique-ascending : IsStrictlySortedBy race_cmp unique
  unique-ascending = distinct-ascending race_cmp race_eq race_total race_eq-cmp sorted unique in_order is

  pub unique-contains : (race : Race) → Contains unique race ↔ Contains xs race
  unique-contains = distinct-contains race_cmp race_eq race_total race_eq-cmp race_eq-exact xs sorted unique permutation is
