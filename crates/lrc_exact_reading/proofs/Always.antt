-- At each position, what each node has of a word fits what it knows.
use Rattle.std.proofs.Common.{◌≡◌, ℕ, zero, suc, ◌+◌, ◌<◌, ◌≤◌, false, List, length, inl, inr, refl, sym, subst, ap, arith, add-one}
use Rattle.std.specs.Prelude.{Option, Some, None}
use Rattle.std.proofs.lemmas.Bool.{cases_eq}
use Rattle.lrc_trace.specs.declared.act.Act.{Act}
use Rattle.lrc_trace.specs.declared.act.Deed.{Deed}
use Rattle.lrc_trace.specs.declared.act.Deed.TheVariants.{Quiet, Print, Read, Write, Acquire, Release, Arrive, Depart, Trap, End}
use Rattle.lrc_trace.specs.Run.{Does}
use Rattle.lrc_trace.specs.Interval.{closes}
use Rattle.lrc_trace.specs.Synchronization.{IsWellSynchronized, WaitsAtBarriers}
use Rattle.lrc_trace.proofs.Positions.{Does-node, Does-one_node, Does-one_deed}
use Rattle.lrc_trace.proofs.Intervals.{act_at, count_of-same}
use Rattle.lrc_exact.specs.LocalRule.{state_before, released_state, state_after}
use Rattle.lrc_exact.specs.Rule.{Shape, State, exact_rule, KeepsExact, page_of, accessed, closed, acquired}
use Rattle.lrc_exact_reading.proofs.Stepping.{HoldsAt, moves, start_holds, learns, looked, same_interval, wrote, closes_clean}
use Rattle.lrc_exact_reading.proofs.Departing.{next-own, next-other, departed_holds}

module _ (shape : Shape) (run : List Act) (states : List State) (keeps : KeepsExact shape run states) (ws : IsWellSynchronized shape.nodes run)
    (waits : WaitsAtBarriers run) (word : ℕ) where
  abbrev state_at : ℕ → ℕ → State
  state_at j node = state_before (exact_rule shape) run states node j

  abbrev HoldsHere : ℕ → ℕ → State → Type 0
  HoldsHere j node s = HoldsAt shape run states keeps ws waits word j node s

  module _ (j : ℕ) (within : j < length run) (holds : (i node : ℕ) → i ≤ j → HoldsHere i node (state_at i node)) (node : ℕ) where
    quiet_deed : (d : Deed) → Does run j node d → closes d ≡ false → ((v : ℕ) → d ≡ Write word v → ⊥) → (s : State) → HoldsHere j node s
        → HoldsHere (j + 1) node s
    quiet_deed d does not no_write s h =
        moves shape run states keeps ws waits word j node s (same_interval shape run states keeps ws waits word j within holds node d does not)
        (λ v there. no_write v (Does-one_deed does there)) h

    now : HoldsHere j node (state_at j node)
    now = holds j node (omega arith)

    own : (d : Deed) → Does run j node d → HoldsHere (j + 1) node (state_after (exact_rule shape) run states j node d)
    own Quiet does = quiet_deed Quiet does refl (λ v e. let impossible : ⊥ = cc in impossible) (state_at j node) now
    own (Print x) does = quiet_deed (Print x) does refl (λ v e. let impossible : ⊥ = cc in impossible) (state_at j node) now
    own (Read w x) does =
        quiet_deed (Read w x) does refl (λ v e. let impossible : ⊥ = cc in impossible) (accessed shape (page_of shape w) (state_at j node))
        (looked shape run states keeps ws waits word j within holds node (page_of shape w))
    own (Write w v) does = wrote shape run states keeps ws waits word j within holds node w v does
    own (Acquire l) does = go (released_state run states l j)
      where
        go : (o : Option State) → HoldsHere (j + 1) node (acquired shape.nodes node (state_at j node) o)
        go None = record {
          clean = λ e. closes_clean shape run states keeps ws waits word j within holds node (Acquire l) does refl;
          dirty = λ b e. let impossible : ⊥ = cc in absurd impossible;
        }
        go (Some r) = record {
          clean = λ e.
              learns shape run states keeps ws waits word (closed node (state_at j node)).knows ((closed node (state_at j node)).words word) r.knows
              (closes_clean shape run states keeps ws waits word j within holds node (Acquire l) does refl);
          dirty = λ b e. let impossible : ⊥ = cc in absurd impossible;
        }
    own (Release l) does = record {
      clean = λ e. closes_clean shape run states keeps ws waits word j within holds node (Release l) does refl;
      dirty = λ b e. let impossible : ⊥ = cc in absurd impossible;
    }
    own Arrive does = record {
      clean = λ e. closes_clean shape run states keeps ws waits word j within holds node Arrive does refl;
      dirty = λ b e. let impossible : ⊥ = cc in absurd impossible;
    }
    own Depart does = departed_holds shape run states keeps ws waits word j within holds node does
    own (Trap x) does = quiet_deed (Trap x) does refl (λ v e. let impossible : ⊥ = cc in impossible) (state_at j node) now
    own End does = quiet_deed End does refl (λ v e. let impossible : ⊥ = cc in impossible) (state_at j node) now

    next : HoldsHere (j + 1) node (state_at (j + 1) node)
    next =
        let (act, does) = act_at run j within in
        elim (cases_eq act.node node) [
          | inl mine ↦
              let here : Does run j node act.deed = Does-node mine does in
              subst (λ s. HoldsHere (j + 1) node s) (sym (next-own shape run states keeps j node act.deed here)) (own act.deed here)
          | inr apart ↦
              subst (λ s. HoldsHere (j + 1) node s) (sym (next-other shape run states keeps j node act.node act.deed does apart)) (
              moves shape run states keeps ws waits word j node (state_at j node)
              (ap (λ n. 1 + n) (count_of-same closes run node j act.node act.deed does (λ e is. apart e)))
              (λ v there. apart (Does-one_node does there)) now
              )
        ]

  below : (n j node : ℕ) → j < n → j ≤ length run → HoldsHere j node (state_at j node)
  below zero j node lt le = absurd (omega arith)
  below (suc n) zero node lt le = start_holds shape run states keeps ws waits word node
  below (suc n) (suc j) node lt le =
      subst (λ k. HoldsHere k node (state_at k node)) (add-one j) (
      next j (omega arith) (λ i other less. below n i other (omega arith) (omega arith)) node
      )

  pub always : (j node : ℕ) → j ≤ length run → HoldsHere j node (state_at j node)
  always j node le = below (j + 1) j node (omega arith) le
