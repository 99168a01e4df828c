-- Acts that race are behind the same barrier.
use Rattle.std.proofs.Common.{◌≡◌, ℕ, ◌+◌, ◌<◌, List, inl, inr, refl, sym, subst, ◌∙◌, arith}
use Rattle.std.specs.Prelude.{false}
use Rattle.std.proofs.lemmas.Bool.{cases_eq, cases_lt}
use Rattle.lrc_trace.specs.declared.act.Act.{Act}
use Rattle.lrc_trace.specs.declared.act.Deed.{Deed}
use Rattle.lrc_trace.specs.declared.act.Deed.TheVariants.{Arrive}
use Rattle.lrc_trace.specs.Run.{Does, is_arrive, is_depart, departs_before}
use Rattle.lrc_trace.specs.Order.{program, barrier, HappensBefore, base, further}
use Rattle.lrc_trace.specs.Synchronization.{IsWellSynchronized, WaitsAtBarriers}
use Rattle.lrc_trace.proofs.Positions.{Does-within, Does-one_deed}
use Rattle.lrc_trace.proofs.Intervals.{count_of-rises, count_of-more, numbered_arrive, numbered_depart}

-- two acts that are no arrives and departs, of nodes that exist: if neither happens before the other, their nodes have
-- departed equally often before them
pub behind_one : {nodes : ℕ} {run : List Act} → IsWellSynchronized nodes run → WaitsAtBarriers run → (i j p q : ℕ) (a b : Deed) → i < j
    → p < nodes → q < nodes → Does run i p a → Does run j q b → (a ≡ Arrive → ⊥) → is_depart a ≡ false → is_depart b ≡ false
    → (HappensBefore run i j → ⊥) → departs_before run p i ≡ departs_before run q j
behind_one {run = run} sync waits i j p q a b lt p_in q_in first second not_arrive not_depart neither unordered =
    let first_waits = waits.departed i p a first not_depart in
    let second_waits = waits.departed j q b second neither in
    let i_in = Does-within first in
    let j_in = Does-within second in
    elim (cases_lt (departs_before run p i) (departs_before run q j)) [
      | inl less ↦
          let (d, d_before, departs, number) = numbered_depart run q j (departs_before run p i) (omega arith) less in
          let d_in = Does-within departs in
          let arrived = sync.departs d q departs p p_in in
          let (e, e_before, arrives, as_many) = numbered_arrive run p d (departs_before run p i) (omega arith) (omega arith) in
          let handed = barrier e_before arrives departs (as_many ∙ sym number) in
          let on = program d_before departs second in
          let more = count_of-more is_arrive run p e Arrive arrives refl in
          elim (cases_lt e i) [
            | inl early ↦ let rises = count_of-rises is_arrive run p (e + 1) i (omega arith) in absurd (omega arith)
            | inr late ↦
                elim (cases_eq i e) [
                  | inl same ↦ absurd (not_arrive (let P : ℕ → Type 0 = λ n. Does run n p Arrive in Does-one_deed first (subst P (sym same) arrives)))
                  | inr other ↦ absurd (unordered (further (further (base (program (omega arith) first arrives)) handed) on))
                ]
          ]
      | inr least ↦
          elim (cases_lt (departs_before run q j) (departs_before run p i)) [
            | inr most ↦ omega arith
            | inl less ↦
                let (d, d_before, departs, number) = numbered_depart run p i (departs_before run q j) (omega arith) less in
                let arrived = sync.departs d p departs q q_in in
                let rises = count_of-rises is_arrive run q d j (omega arith) in
                absurd (omega arith)
          ]
    ]
