-- Where no node is said to trap, an order without a trap leads to each state that was found.
use Rattle.std.proofs.Common.{◌≡◌, ℕ, ◌+◌, ◌<◌, ◌≤◌, ◌++◌, Bool, true, false, inl, inr, sym, ap, ◌∙◌, subst, arith}
use Rattle.std.specs.Prelude.{◌||◌, Option, Some, None, is_some}
use Rattle.std.proofs.lemmas.Bool.{cases_lt, true≢false}
use Rattle.lrc_exec.specs.States.{plain_at}
use Rattle.lrc_orders.specs.declared.noted.Noted.{Noted}
use Rattle.lrc_orders.specs.Kept.{IsAddedAt}
use Rattle.lrc_orders.specs.Traps.{has_trap}
use Rattle.lrc_orders.proofs.Searching.{copy_same}
use Rattle.lrc_orders_laws.specs.Steps.{beginning}
use Rattle.lrc_orders_settling.specs.declared.step.Step.{Step}
use Rattle.lrc_orders_live.proofs.Like.{like_is}
use Rattle.lrc_orders_table.specs.declared.rows.Row.{Row}
use Rattle.lrc_orders_table.specs.declared.rows.Rows.{Rows}
use Rattle.lrc_orders_table.specs.Rows.{IsRowAt, WidensRows, row_count}
use Rattle.lrc_orders_table.proofs.Noting.{traps_again}
use Rattle.lrc_orders_table.proofs.RowLaws.{row_copy, row_within}
use Rattle.lrc_explore.specs.declared.task.Found.{Found}
use Rattle.lrc_explore.specs.declared.task.Task.{Task}
use Rattle.lrc_explore.specs.Met.{IsOnlyNew}
use Rattle.lrc_explore.specs.Reached.{AreFound, AreReached, LeadsTo}
use Rattle.lrc_explore.specs.Traps.{AreRowsTrapless, IsReachedTrapless, KeepsTrapless, ShowsStartTrap, ShowsTrapAt, first_step}
use Rattle.lrc_explore.proofs.Reaching.{further}
use Rattle.lrc_explore.proofs.Trapping.{was_at}

-- the start alone
pub trapless_first : (task : Task) (found : Found) → AreFound task found → row_count found.table.rows ≡ 1 → (traps : Bool) → ShowsStartTrap task traps
    → traps ≡ false → AreRowsTrapless task found.table.rows
trapless_first task found f one traps shows e k key at =
    let within = row_within found.table.rows k key at in
    let zero : k ≡ 0 = omega (arith, within, one) in
    let first = f.first key (subst (λ n. IsRowAt found.table.rows n key) zero at) in
    record {
      acts = first.0;
      machine = first.1;
      led = beginning first.0 first.1 first.2;
      alike = first.3;
      trapless = shows.each first.0 first.1 first.2 ∙ e;
    }

-- no state was added
pub trapless_same : (task : Task) (old new : Rows) → AreReached task old → WidensRows old new → row_count new ≡ row_count old → AreRowsTrapless task old
    → AreRowsTrapless task new
trapless_same task old new reached w same calm k key at =
    let within = row_within new k key at in calm k key (was_at old new k key w (reached.full k (omega (arith, within, same))) at)

-- what stands at the same place
trapless_copy : (task : Task) (all : Rows) (place : ℕ) (key other : Noted) → IsRowAt all place key → IsRowAt all place other → IsReachedTrapless task key
    → IsReachedTrapless task other
trapless_copy task all place key other at there b =
    let copy = row_copy all place key other at there in
    record {
      acts = b.acts;
      machine = b.machine;
      led = b.led;
      alike = like_is b.alike (copy_same task.flat key.state other.state copy.state);
      trapless = b.trapless;
    }

-- a step in which no node traps
trapless_step : (task : Task) (all : Rows) (place : ℕ) (step : Step) (row : Row) → AreReached task all → (n : LeadsTo task all place step row)
    → ShowsTrapAt task all place step false → IsReachedTrapless task n.from.before → IsReachedTrapless task n.key
trapless_step task all place step row reached n shows b =
    let f = n.from in
    let on = further task f.before (reached.each place f.before f.there) b.acts b.machine b.led b.alike step f.acts (plain_at task.flat n.key.state) f.takes in
    record {
      acts = b.acts ++ f.acts;
      machine = on.machine;
      led = on.led;
      alike = on.alike;
      trapless = traps_again b.acts f.acts ∙ ap (λ t. t || has_trap f.acts) b.trapless ∙ (shows f.before f.there).each f.acts f.takes.there f.takes.takes;
    }

-- the state to which such a step leads was added, if it is new
pub trapless_put : (task : Task) (was new : Rows) (place next : ℕ) (step : Step) (row : Row) → AreReached task was → WidensRows was new
    → IsOnlyNew (row_count was) (row_count new) next → (n : LeadsTo task was place step row) → ShowsTrapAt task was place step false → IsRowAt new next n.key
    → AreRowsTrapless task was → AreRowsTrapless task new
trapless_put task was new place next step row reached w only n shows comes calm k key at = elim (cases_lt k (row_count was)) [
  | inl lt ↦ calm k key (was_at was new k key w (reached.full k lt) at)
  | inr past ↦
      let here : k ≡ next = only k past (row_within new k key at) in
      let before = calm place n.from.before n.from.there in
      trapless_copy task new next n.key key comes (subst (λ m. IsRowAt new m key) here at) (trapless_step task was place step row reached n shows before)
]

-- where a place was added
pub added_only : (was now put : ℕ) (added : Bool) → IsAddedAt was now put added → IsOnlyNew was now put
added_only was now put true is k past within = omega (arith, is.0, is.1, past, within)
added_only was now put false is k past within = absurd (omega (arith, is, past, within))

-- a step more
pub keeps_on : (task : Task) (a b c : Rows) (trap : Option Step) (traps : Bool) (step : Step) → KeepsTrapless task a b (is_some trap)
    → KeepsTrapless task b c traps → KeepsTrapless task a c (is_some (first_step trap traps step))
keeps_on task a b c (Some first) traps step was here e calm = absurd (true≢false e)
keeps_on task a b c None true step was here e calm = absurd (true≢false e)
keeps_on task a b c None false step was here e calm = here e (was e calm)

pub keeps_first : (task : Task) (a b : Rows) (traps : Bool) (step : Step) → KeepsTrapless task a b traps
    → KeepsTrapless task a b (is_some (first_step None traps step))
keeps_first task a b true step here e calm = absurd (true≢false e)
keeps_first task a b false step here e calm = here e calm
