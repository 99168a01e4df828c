-- The best starts at each index of a table, from the positions behind one on, and from that one on.
use Rattle.std.proofs.Common.{◌≡◌, ℕ, ◌+◌, ◌<◌, ◌≤◌, ◌⊎◌, inl, inr, sym, subst, arith}
use Rattle.std.specs.Prelude.{◌≢◌, Option, None}
use Rattle.std.proofs.lemmas.Bool.{cases_eq}
use Rattle.lrc_chains.specs.declared.starts.Start.{Start}
use Rattle.lrc_chains.specs.Starts.{IsBest, better}
use Rattle.lrc_chains.proofs.Paths.{path-bound, path-some}
use Rattle.lrc_chains.proofs.Best.{Best-none, Best-same, Best-joined}

module _ (Precedes : ℕ → ℕ → Type 0) (forward : (i j : ℕ) → Precedes i j → i < j) (to : ℕ) where
  -- behind the last position there is none
  pub Best-past : (These : ℕ → Type 0) → IsBest Precedes to (λ k. (to + 1 ≤ k) × These k) None
  Best-past These = Best-none Precedes forward to (λ k. (to + 1 ≤ k) × These k)
      (λ k path (le, h) p. let bound = path-bound forward p in let some = path-some p in omega arith)

  -- one position more, where it is none of these, and where it is one
  module _ (n : ℕ) (These : ℕ → Type 0) where
    pub Best-passed : (best : Option Start) → (These n → ⊥) → IsBest Precedes to (λ k. (n + 1 ≤ k) × These k) best
        → IsBest Precedes to (λ k. (n ≤ k) × These k) best
    Best-passed best fails g =
        Best-same Precedes forward to (λ k. (n + 1 ≤ k) × These k) (λ k. (n ≤ k) × These k) best (λ k (le, h). (omega arith, h)) (λ k (le, h).
        elim (cases_eq k n) [
          | inl there ↦ absurd (fails (subst These there h))
          | inr other ↦ (omega arith, h)
        ]) g

    pub Best-noted : (start best : Option Start) → These n → IsBest Precedes to (λ k. k ≡ n) start
        → IsBest Precedes to (λ k. (n + 1 ≤ k) × These k) best → IsBest Precedes to (λ k. (n ≤ k) × These k) (better start best)
    Best-noted start best holds h g =
        Best-same Precedes forward to (λ k. (k ≡ n) ⊎ ((n + 1 ≤ k) × These k)) (λ k. (n ≤ k) × These k) (better start best) (λ k t.
        elim t [
          | inl there ↦ (omega arith, subst These (sym there) holds)
          | inr (le, p) ↦ (omega arith, p)
        ]) (λ k (le, p).
        elim (cases_eq k n) [
          | inl there ↦ inl there
          | inr other ↦ inr (omega arith, p)
        ]) (Best-joined Precedes forward to (λ k. k ≡ n) (λ k. (n + 1 ≤ k) × These k) start best h g)

  -- a table with a start at each index, for the positions that belong to it
  module _ (n : ℕ) (These : ℕ → ℕ → Type 0) (before after : ℕ → Option Start)
      (old : (x : ℕ) → IsBest Precedes to (λ k. (n + 1 ≤ k) × These x k) (before x)) where
    -- the position belongs to none
    pub each-same : ((x : ℕ) → These x n → ⊥) → (x : ℕ) → IsBest Precedes to (λ k. (n ≤ k) × These x k) (before x)
    each-same fails x = Best-passed n (These x) (before x) (fails x) (old x)

    -- it belongs to this one alone
    pub each-next : (y : ℕ) (start : Option Start) → after y ≡ better start (before y) → ((x : ℕ) → x ≢ y → after x ≡ before x)
        → ((x : ℕ) → These x n → x ≡ y) → These y n → IsBest Precedes to (λ k. k ≡ n) start
        → (x : ℕ) → IsBest Precedes to (λ k. (n ≤ k) × These x k) (after x)
    each-next y start here others one holds g x =
        elim (cases_eq x y) [
          | inl same ↦
              let at : IsBest Precedes to (λ k. (n ≤ k) × These y k) (after y) =
              subst (λ (b : Option Start). IsBest Precedes to (λ k. (n ≤ k) × These y k) b) (sym here)
              (Best-noted n (These y) start (before y) holds g (old y)) in
              subst (λ (m : ℕ). IsBest Precedes to (λ k. (n ≤ k) × These m k) (after m)) (sym same) at
          | inr other ↦
              subst (λ (b : Option Start). IsBest Precedes to (λ k. (n ≤ k) × These x k) b) (sym (others x other))
              (Best-passed n (These x) (before x) (λ p. other (one x p)) (old x))
        ]
