-- What is known still gathers the same where a chunk is levelled.
use Rattle.std.proofs.Common.{◌≡◌, ℕ, ◌<◌, ◌≤◌, ◌⊎◌, List, max, inl, inr, sym, subst, ap, arith}
use Rattle.std.specs.Prelude.{slice_index}
use Rattle.std.proofs.lemmas.Bool.{cases_eq, cases_lt}
use Rattle.lrc_races_detector.specs.declared.clocks.Clocks.{Clocks}
use Rattle.lrc_races_detector.specs.Clocks.{row, IsGained}

-- what a thread knows of itself is no less than it was
pub gained_own : (before after : Clocks) (index : ℕ) (known : List ℕ) → IsGained before after index known
    → (thread : ℕ) → slice_index (row before thread) thread ≤ slice_index (row after thread) thread
gained_own before after index known gained thread =
    elim (cases_eq thread index) [
      | inl same ↦
          subst (λ k. slice_index (row before k) thread ≤ slice_index (row after k) thread) (sym same)
          (let e = gained.here thread in omega arith)
      | inr other ↦ let e = ap (λ xs. slice_index xs thread) (gained.others thread other) in omega arith
    ]

-- Of an entry that is as it was, or was no less than the thread's own and now is at least n: what is below it, and below
-- the thread's own if below n, was below it,
pub levelled_below : (Here : Type 0) (old new own n i : ℕ) → (new ≡ old) ⊎ (Here × (own ≤ old) × (new ≡ max old n))
    → (i < n → i < own) → i < new → i < old
levelled_below Here old new own n i (inl same) known lt = omega (arith, same, lt)
levelled_below Here old new own n i (inr (here, le, is)) known lt =
    elim (cases_lt i n) [
      | inl before ↦ let below = known before in omega (arith, le, below)
      | inr past ↦ omega (arith, past, is, lt)
    ]

-- and what was below it is
pub levelled_above : (Here : Type 0) (old new own n i : ℕ) → (new ≡ old) ⊎ (Here × (own ≤ old) × (new ≡ max old n))
    → i < old → i < new
levelled_above Here old new own n i (inl same) lt = omega (arith, same, lt)
levelled_above Here old new own n i (inr (here, le, is)) lt = omega (arith, is, lt)
