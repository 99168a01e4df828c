-- A chain is told wherever one position happens before another.
use Rattle.std.proofs.Common.{◌≡◌, ℕ, zero, suc, ◌+◌, ◌<◌, ◌≤◌, ◌⊎◌, List, length, inl, inr, refl, sym, subst, arith}
use Rattle.std.specs.Prelude.{Option, Some, None}
use Rattle.std.proofs.lemmas.Bool.{cases_eq, cases_lt}
use Rattle.lrc_trace.specs.declared.act.Act.{Act}
use Rattle.lrc_trace.specs.Order.{Precedes, HappensBefore, base}
use Rattle.lrc_trace.proofs.HappensBefore.{Precedes-forward, forward, within}
use Rattle.lrc_trace.proofs.Decided.{Precedes-decided}
use Rattle.lrc_why_chains.specs.declared.starts.Start.{Start}
use Rattle.lrc_why_chains.specs.Chains.{IsTold}
use Rattle.lrc_why_chains.specs.Starts.{IsToldPath, IsBest, better, from_here}
use Rattle.lrc_why_chains.proofs.Paths.{path-bound, path-some, before-chain, chain-path, told-path}
use Rattle.lrc_why_chains.proofs.Best.{Best-none, Best-same, Best-joined, Best-last, Best-here}

module _ (run : List Act) (to : ℕ) where
  abbrev Known : (ℕ → Type 0) → Type 0
  Known these = (best : Option Start) × IsBest run to these best

  behind : (k : ℕ) → ((m : ℕ) → k < m → Known (λ x. x ≡ m)) → (n : ℕ) → Known (λ m. (m < n) × Precedes run k m)
  behind k each zero = (None, Best-none run to (λ m. (m < 0) × Precedes run k m) (λ m path (lt, p) q. omega arith))
  behind k each (suc n) =
      let (best, g) = behind k each n in
      elim (Precedes-decided run k n) [
        | inr not ↦ (
          best,
          Best-same run to (λ m. (m < n) × Precedes run k m) (λ m. (m < suc n) × Precedes run k m) best
              (λ m (lt, p). (omega arith, p)) (λ m (lt, p).
              elim (cases_eq m n) [
                | inl same ↦ absurd (not (subst (λ (x : ℕ). Precedes run k x) same p))
                | inr other ↦ (omega arith, p)
              ]) g,
        )
        | inl p ↦
            let (one, h) = each n (Precedes-forward p) in (
              better best one,
              Best-same run to (λ m. ((m < n) × Precedes run k m) ⊎ (m ≡ n)) (λ m. (m < suc n) × Precedes run k m)
                  (better best one) (λ m t.
                  elim t [
                    | inl (lt, q) ↦ (omega arith, q)
                    | inr same ↦ (omega arith, subst (λ (x : ℕ). Precedes run k x) (sym same) p)
                  ]) (λ m (lt, q).
                  elim (cases_eq m n) [
                    | inl same ↦ inr same
                    | inr other ↦ inl (omega arith, q)
                  ]) (Best-joined run to (λ m. (m < n) × Precedes run k m) (λ m. m ≡ n) best one g h),
            )
      ]

  before : (k : ℕ) → k < to → ((m : ℕ) → k < m → Known (λ x. x ≡ m)) → Known (λ m. m ≡ k)
  before k lt each =
      let (best, g) = behind k each (length run) in (
        from_here best k,
        Best-here run to k lt best (Best-same run to (λ m. (m < length run) × Precedes run k m) (λ m. Precedes run k m) best
            (λ m (in_run, p). p) (λ m p. (within (base p), p)) g),
      )

  from_behind : (k : ℕ) → (k < to → (m : ℕ) → k < m → Known (λ x. x ≡ m)) → Known (λ m. m ≡ k)
  from_behind k each =
      elim (cases_lt k to) [
        | inr past ↦
            elim (cases_eq k to) [
              | inl same ↦ (
                Some (record { acts = 1; position = to }),
                subst (λ (x : ℕ). IsBest run to (λ m. m ≡ x) (Some (record { acts = 1; position = to })))
                    (sym same) (Best-last run to),
              )
              | inr other ↦ (None, Best-none run to (λ m. m ≡ k) (λ m path e p. let bound = path-bound p in let some = path-some p in omega arith))
            ]
        | inl lt ↦ before k lt (each lt)
      ]

  known : (fuel k : ℕ) → to ≤ k + fuel → Known (λ m. m ≡ k)
  known zero k le = from_behind k (λ lt. absurd (omega arith))
  known (suc fuel) k le = from_behind k (λ lt m after. known fuel m (omega arith))

pub before-told : {run : List Act} {i j : ℕ} → HappensBefore run i j → (chain : List ℕ) × IsTold run i j chain
before-told {run} {i} {j} h =
    let (chain, c) = before-chain h in
    let (best, g) = known run j j i (omega arith) in
    let found = g.complete i chain refl (chain-path c) in
    let (at, (path, told, long)) = g.sound found.some found.is in
    let lt = forward h in
    (path, told-path lt (subst (λ (x : ℕ). IsToldPath run j x path) at told))
