-- Ranks of intervals, and the order in which changes are applied.
use Rattle.std.proofs.Common.{◌≡◌, ℕ, ◌+◌, ◌<◌, ◌&&◌, ◌⊎◌, true, false, inl, inr, arith}
use Rattle.std.specs.Prelude.{IsTrue, ◌==◌, nat_lt}
use Rattle.std.proofs.lemmas.Bool.{cases_lt, ltb-true, lt-ltb, eqb-true, eq-eqb, and_parts, and_from, or_cases, or_left, or_right, both_ways, false_from_ne_true}
use Rattle.lrc_time.specs.Time.{weight_of}
use Rattle.lrc_store.specs.Interval.{IntervalRecord, index_of, by_node, by_weight}
use Rattle.lrc_exact.specs.Memory.{Rank, is_lower}

-- ranks are ordered by weight, and then by node
abbrev pub IsLower : Rank → Rank → Type 0
IsLower a b = (a.weight < b.weight) ⊎ ((a.weight ≡ b.weight) × (a.node < b.node))

pub lower-from : (a b : Rank) → is_lower a b ≡ true → IsLower a b
lower-from a b e =
    elim (or_cases (nat_lt a.weight b.weight) (a.weight == b.weight && nat_lt a.node b.node) e) [
      | inl less ↦ inl (ltb-true a.weight b.weight less)
      | inr both ↦
          let parts = and_parts (a.weight == b.weight) (nat_lt a.node b.node) both in
          inr (eqb-true a.weight b.weight parts.0, ltb-true a.node b.node parts.1)
    ]

lower-to : (a b : Rank) → IsLower a b → is_lower a b ≡ true
lower-to a b (inl less) = or_left (nat_lt a.weight b.weight) (a.weight == b.weight && nat_lt a.node b.node) (lt-ltb a.weight b.weight less)
lower-to a b (inr (same, less)) =
    or_right (nat_lt a.weight b.weight) (a.weight == b.weight && nat_lt a.node b.node)
    (and_from (a.weight == b.weight) (nat_lt a.node b.node) (eq-eqb a.weight b.weight same) (lt-ltb a.node b.node less))

not_itself : (a : Rank) → IsLower a a → ⊥
not_itself a (inl x) = omega arith
not_itself a (inr (e, x)) = omega arith

-- no rank is lower than itself
pub same_rank : (a : Rank) → is_lower a a ≡ false
same_rank a = false_from_ne_true (is_lower a a) (λ e. not_itself a (lower-from a a e))

-- two of which none is lower have one weight and one node
pub neither_lower : (a b : Rank) → is_lower a b ≡ false → is_lower b a ≡ false → (a.weight ≡ b.weight) × (a.node ≡ b.node)
neither_lower a b e f =
    let below : IsLower a b → ⊥ = λ less. both_ways (is_lower a b) e (lower-to a b less) in
    let above : IsLower b a → ⊥ = λ less. both_ways (is_lower b a) f (lower-to b a less) in
    let weights : a.weight ≡ b.weight =
    elim (cases_lt a.weight b.weight) [
      | inl less ↦ absurd (below (inl less))
      | inr most ↦ elim (cases_lt b.weight a.weight) [ inl more ↦ absurd (above (inl more)) | inr least ↦ omega arith ]
    ] in
    let nodes : a.node ≡ b.node =
    elim (cases_lt a.node b.node) [
      | inl less ↦ absurd (below (inr (weights, less)))
      | inr most ↦
          elim (cases_lt b.node a.node) [
            | inl more ↦ let same : b.weight ≡ a.weight = omega arith in absurd (above (inr (same, more)))
            | inr least ↦ omega arith
          ]
    ] in
    (weights, nodes)

-- ---- the order in which changes are applied

-- an interval's rank
abbrev pub rank_of : IntervalRecord → Rank
rank_of i = record { weight = weight_of i.stamp; node = i.node }

-- an interval whose changes are applied later has no lower rank
pub later_not_lower : (a b : IntervalRecord) → IsTrue (by_weight a b) → is_lower (rank_of b) (rank_of a) ≡ false
later_not_lower a b t =
    false_from_ne_true (is_lower (rank_of b) (rank_of a)) (λ e.
    let low : IsLower (rank_of b) (rank_of a) = lower-from (rank_of b) (rank_of a) e in
    elim (or_cases (nat_lt (weight_of a.stamp) (weight_of b.stamp)) ((weight_of a.stamp == weight_of b.stamp) && by_node a b) t) [
      | inl less ↦ heavier (weight_of a.stamp) (weight_of b.stamp) a.node b.node (ltb-true (weight_of a.stamp) (weight_of b.stamp) less) low
      | inr both ↦
          let parts = and_parts (weight_of a.stamp == weight_of b.stamp) (by_node a b) both in
          let same = eqb-true (weight_of a.stamp) (weight_of b.stamp) parts.0 in
          elim (or_cases (nat_lt a.node b.node) ((a.node == b.node) && nat_lt (index_of a) (index_of b)) parts.1) [
            | inl less ↦ of_nodes (weight_of a.stamp) (weight_of b.stamp) a.node b.node same (let lt = ltb-true a.node b.node less in omega arith) low
            | inr rest ↦
                let one = and_parts (a.node == b.node) (nat_lt (index_of a) (index_of b)) rest in
                of_nodes (weight_of a.stamp) (weight_of b.stamp) a.node b.node same (let e = eqb-true a.node b.node one.0 in omega arith) low
          ]
    ])
  where
    heavier : (w v m n : ℕ) → w < v → (v < w) ⊎ ((v ≡ w) × (n < m)) → ⊥
    heavier w v m n lt (inl less) = omega arith
    heavier w v m n lt (inr (same, less)) = omega arith

    of_nodes : (w v m n : ℕ) → w ≡ v → m < n + 1 → (v < w) ⊎ ((v ≡ w) × (n < m)) → ⊥
    of_nodes w v m n e le (inl less) = omega arith
    of_nodes w v m n e le (inr (same, less)) = omega arith
