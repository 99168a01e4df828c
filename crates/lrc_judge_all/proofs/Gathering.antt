-- The writes of a node that are passed, one position further.
use Rattle.std.proofs.Common.{◌≡◌, ◌+◌, ◌≤◌, ◌⊎◌, ◌++◌, ◌∷◌, [], ℕ, List, arith, inl, inr, subst, sym}
use Rattle.std.specs.Prelude.{IsTrue}
use Rattle.std.proofs.lemmas.Bool.{cases_eq}
use Rattle.lrc_trace.specs.declared.act.Act.{Act}
use Rattle.lrc_judge.specs.Adding.{Adds}
use Rattle.lrc_judge.specs.Order.{is_before}
use Rattle.lrc_judge.specs.declared.order.Order.{Order}
use Rattle.lrc_judge.proofs.Additions.{adds-both, adds-iff, adds-push, adds-same}
use Rattle.lrc_judge_all.specs.Known.{IsPassed, IsWriteOf}

module _ (run : List Act) (node from : ℕ) where
  pub passed_none : (i : ℕ) → IsPassed run node from from i → ⊥
  passed_none i p = let a = p.from_there in let b = p.earlier in omega arith

  pub passed_wider : (k i : ℕ) → IsPassed run node from k i → IsPassed run node from (k + 1) i
  passed_wider k i p = let b = p.earlier in record { from_there = p.from_there; earlier = omega arith; write = p.write }

  pub passed_cases : (k i : ℕ) → IsPassed run node from (k + 1) i → IsPassed run node from k i ⊎ (i ≡ k)
  passed_cases k i p =
      let b = p.earlier in
      elim (cases_eq i k) [
        | inl same ↦ inr same
        | inr other ↦ inl (record { from_there = p.from_there; earlier = omega (arith, b, other); write = p.write })
      ]

  pub passed_same : (k i : ℕ) → (IsWriteOf run node k → ⊥) → IsPassed run node from (k + 1) i → IsPassed run node from k i
  passed_same k i not p =
      elim (passed_cases k i p) [ inl old ↦ old | inr same ↦ absurd (not (subst (λ m. IsWriteOf run node m) same p.write)) ]

  pub gather_none : (xs : List ℕ) → Adds xs xs (IsPassed run node from from)
  gather_none xs = adds-same xs (IsPassed run node from from) passed_none

  pub gather_same : (k : ℕ) (xs ys : List ℕ) → (IsWriteOf run node k → ⊥) → Adds xs ys (IsPassed run node from k)
      → Adds xs ys (IsPassed run node from (k + 1))
  gather_same k xs ys not adds =
      adds-iff xs ys (IsPassed run node from k) (IsPassed run node from (k + 1)) (passed_wider k) (λ i p. passed_same k i not p) adds

  pub gather_more : (k : ℕ) (xs ys zs : List ℕ) → from ≤ k → IsWriteOf run node k → zs ≡ ys ++ k ∷ [] → Adds xs ys (IsPassed run node from k)
      → Adds xs zs (IsPassed run node from (k + 1))
  gather_more k xs ys zs le here pushed adds =
      adds-both xs ys zs (IsPassed run node from k) (λ i. i ≡ k) (IsPassed run node from (k + 1)) (passed_cases k)
      (λ i h. elim h [
        | inl p ↦ passed_wider k i p
        | inr same ↦ subst (λ m. IsPassed run node from (k + 1) m) (sym same) (record { from_there = le; earlier = omega arith; write = here })
      ])
      adds (adds-push ys zs k pushed)

  pub before_more : (order : Order) (position k : ℕ) → IsTrue (is_before order k position)
      → ((i : ℕ) → IsPassed run node from k i → IsTrue (is_before order i position))
      → (i : ℕ) → IsPassed run node from (k + 1) i → IsTrue (is_before order i position)
  before_more order position k here old i p =
      elim (passed_cases k i p) [ inl older ↦ old i older | inr same ↦ subst (λ m. IsTrue (is_before order m position)) (sym same) here ]
