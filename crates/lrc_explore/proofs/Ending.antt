-- Runs that end, and their outcomes.
use Rattle.std.proofs.Common.{◌≡◌, ℕ, ◌+◌, List, true, inl, inr, refl, sym, ◌∙◌, subst, arith}
use Rattle.std.proofs.lemmas.Bool.{cases_eq}
use Rattle.lrc_trace.specs.declared.act.Act.{Act}
use Rattle.lrc_trace.specs.declared.act.Cause.{Cause}
use Rattle.lrc_trace.specs.declared.act.Cause.TheVariants.{DivisionByZero, WordOutOfRange, LockOutOfRange, LockHeld, LockNotHeld}
use Rattle.lrc_trace.specs.declared.act.Deed.{Deed}
use Rattle.lrc_trace.specs.declared.act.Deed.TheVariants.{Quiet, Print, Read, Write, Acquire, Release, Arrive, Depart, Trap, End}
use Rattle.lrc_trace.specs.contracts.act.CausePartialEq.TheImpl.{eq-value as cause_eq}
use Rattle.lrc_trace.specs.contracts.act.DeedPartialEq.TheImpl.{eq-value as deed_eq}
use Rattle.lrc_trace.specs.contracts.act.ActPartialEq.TheImpl.{eq-value as act_eq}
use Rattle.lrc_orders.specs.declared.noted.Noted.{Noted}
use Rattle.lrc_orders_table.specs.Rows.{IsRowAt, row_count}
use Rattle.lrc_orders.specs.Outcome.{IsOutcome}
use Rattle.lrc_exec.specs.States.{plain_at}
use Rattle.lrc_orders.specs.Stuck.{IsAtRest}
use Rattle.lrc_orders.proofs.KeptAlike.{both_true, nat_itself}
use Rattle.lrc_orders.proofs.Searching.{copy_same}
use Rattle.lrc_orders_table.proofs.RowLaws.{row_copy, row_within}
use Rattle.lrc_orders_laws.proofs.GoingOn.{state_fine}
use Rattle.lrc_orders_laws.proofs.Settled.{outcomes, state_run}
use Rattle.lrc_explore.specs.declared.task.Task.{Task}
use Rattle.lrc_explore.specs.declared.task.Found.{Found}
use Rattle.lrc_explore.specs.Ended.{AreAllFound, HasNoEndBefore, IsEndAt, IsRunWith}
use Rattle.lrc_explore.specs.Reached.{AreExpanded, AreFound, HasStart}
use Rattle.lrc_explore.specs.Told.{LeadTo}
use Rattle.lrc_orders_live.proofs.Like.{like_back, rest_like}
use Rattle.lrc_explore.proofs.Reaching.{all_reached, fine_key}

-- ---- acts are equal to themselves

cause_itself : (a : Cause) → cause_eq.it a a ≡ true
cause_itself DivisionByZero = refl
cause_itself WordOutOfRange = refl
cause_itself LockOutOfRange = refl
cause_itself LockHeld = refl
cause_itself LockNotHeld = refl

deed_itself : (a : Deed) → deed_eq.it a a ≡ true
deed_itself Quiet = refl
deed_itself (Print v) = nat_itself v
deed_itself (Read v x) = both_true _ _ (nat_itself v) (nat_itself x)
deed_itself (Write v x) = both_true _ _ (nat_itself v) (nat_itself x)
deed_itself (Acquire v) = nat_itself v
deed_itself (Release v) = nat_itself v
deed_itself Arrive = refl
deed_itself Depart = refl
deed_itself (Trap v) = cause_itself v
deed_itself End = refl

pub act_itself : (a : Act) → act_eq.it a a ≡ true
act_itself a = both_true _ _ (nat_itself a.node) (deed_itself a.deed)

-- ---- all settled states

pub all_found : (task : Task) (found : Found) → AreFound task found → HasStart task found.table.rows → AreExpanded task found.table.rows (row_count found.table.rows)
    → AreAllFound task found
all_found task found f start expanded = record { are = f; start = start; expanded = expanded }

-- the acts that lead to a state at which no node can make an act are a run with its notes
pub run_to : (task : Task) (found : Found) (notes : List Act) (place : ℕ) (acts : List Act) → task.noting ≡ true → AreFound task found
    → IsEndAt task found notes place → LeadTo task found place acts → IsRunWith task.program.now task.flat.nodes notes acts
run_to task found notes place acts noting f is led =
    let copy = row_copy found.table.rows place is.key led.key is.there led.there in
    let still = subst IsAtRest (copy_same task.flat is.key.state led.key.state copy.state) is.still in
    record {
      machine = led.machine;
      led = state_run led.led;
      still = rest_like (plain_at task.flat led.key.state) led.machine (fine_key task led.key (f.reached.each place led.key led.there))
          (state_fine led.led) (like_back led.alike) still;
      are = led.noted noting ∙ sym copy.notes ∙ is.are;
    }

-- where no state is such an end, the notes are of no outcome
pub no_outcome : (task : Task) (found : Found) (notes : List Act) → task.noting ≡ true → AreAllFound task found
    → HasNoEndBefore task found notes (row_count found.table.rows) → IsOutcome task.program.now task.flat.nodes notes → ⊥
no_outcome task found notes noting a none is =
    let o = (outcomes task.program.now task.flat.nodes notes).0 is in
    let has = all_reached task found.table.rows a.are.reached a.start a.expanded o.led in
    let key = has.key in
    let still = rest_like o.machine (plain_at task.flat key.state) (state_fine o.led) (fine_key task key (a.are.reached.each has.place key has.there))
    has.alike o.still in
    none has.place (row_within found.table.rows has.place key has.there)
    (record { key = key; there = has.there; still = still; are = has.noted noting ∙ o.are })

-- such an end is one by whatever its row stands for
pub end_still : (task : Task) (found : Found) (notes : List Act) (place : ℕ) (key : Noted) → IsRowAt found.table.rows place key
    → IsEndAt task found notes place → IsAtRest (plain_at task.flat key.state)
end_still task found notes place key there is =
    subst IsAtRest (copy_same task.flat is.key.state key.state (row_copy found.table.rows place is.key key is.there there).state) is.still

pub end_notes : (task : Task) (found : Found) (notes : List Act) (place : ℕ) (key : Noted) → IsRowAt found.table.rows place key
    → IsEndAt task found notes place → key.notes.items ≡ notes
end_notes task found notes place key there is = sym (row_copy found.table.rows place is.key key is.there there).notes ∙ is.are

-- the state at one place more is no such end
pub no_end_at : (task : Task) (found : Found) (notes : List Act) (place : ℕ) → (IsEndAt task found notes place → ⊥) → HasNoEndBefore task found notes place
    → HasNoEndBefore task found notes (place + 1)
no_end_at task found notes place never before k lt is = elim (cases_eq k place) [
  | inl same ↦ never (subst (IsEndAt task found notes) same is)
  | inr apart ↦ before k (omega (arith, lt, apart)) is
]
