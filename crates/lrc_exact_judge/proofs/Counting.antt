-- Counts of arrives and departs, and acts between.
use Rattle.std.proofs.Common.{◌≡◌, ℕ, ◌+◌, ◌<◌, ◌≤◌, false, List, length, inl, inr, sym, subst, ap, ◌∙◌, arith}
use Rattle.std.proofs.lemmas.Bool.{cases_eq, cases_lt}
use Rattle.lrc_trace.specs.declared.act.Act.{Act}
use Rattle.lrc_trace.specs.declared.act.Deed.{Deed}
use Rattle.lrc_trace.specs.Run.{Does, is_depart, arrives_before, departs_before}
use Rattle.lrc_trace.specs.Synchronization.{WaitsAtBarriers}
use Rattle.lrc_trace.proofs.Positions.{Does-one_deed, Does-one_node, Does-within}
use Rattle.lrc_exact_judge.specs.LookedAt.{IsBetween}

-- no act is between, so nodes wait at barriers
pub waits-never : (run : List Act) → ((j : ℕ) → j < length run → ¬ IsBetween run j) → WaitsAtBarriers run
waits-never run never = record {
  departed = λ j node deed does other.
      elim (cases_lt (departs_before run node j) (arrives_before run node j)) [
        | inl less ↦ absurd (never j (Does-within does) (record { node = node; deed = deed; does = does; other = other; waits = less }))
        | inr le ↦ le
      ];
}

-- one position more
pub never-more : (run : List Act) (j : ℕ) → ((k : ℕ) → k < j → ¬ IsBetween run k) → (IsBetween run j → ⊥) → (k : ℕ) → k < j + 1 → ¬ IsBetween run k
never-more run j never here k lt between =
    elim (cases_eq k j) [
      | inl same ↦ here (subst (IsBetween run) same between)
      | inr other ↦ never k (omega arith) between
    ]

-- the act at the position is no act between
pub not-between : (run : List Act) (j node : ℕ) (deed : Deed) → Does run j node deed
    → (is_depart deed ≡ false → arrives_before run node j ≤ departs_before run node j) → IsBetween run j → ⊥
not-between run j node deed does waits between =
    let same : between.node ≡ node = Does-one_node between.does does in
    let deeds : between.deed ≡ deed = Does-one_deed between.does does in
    let le = waits (ap is_depart (sym deeds) ∙ between.other) in
    let a = ap (λ n. arrives_before run n j) same in
    let d = ap (λ n. departs_before run n j) same in
    let less = between.waits in
    absurd (omega arith)
