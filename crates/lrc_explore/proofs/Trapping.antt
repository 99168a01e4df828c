-- Where nodes trap, of what was found.
use Rattle.std.proofs.Common.{◌≡◌, ℕ, ◌+◌, ◌<◌, ◌≤◌, List, [], Bool, true, false, inl, inr, refl, sym, ap, ◌∙◌, subst, arith}
use Rattle.std.specs.Prelude.{◌||◌, Option, Some, None, MatchOption}
use Rattle.std.proofs.lemmas.Bool.{cases_eq, cases_lt}
use Rattle.lrc_trace.specs.declared.act.Act.{Act}
use Rattle.lrc_exec.specs.Plain.{Plain}
use Rattle.lrc_exec.specs.States.{plain_at}
use Rattle.lrc_exec.specs.declared.state.State.{State}
use Rattle.lrc_orders.specs.declared.noted.Noted.{Noted}
use Rattle.lrc_orders.specs.Traps.{NeverTraps, NodeTraps, has_trap}
use Rattle.lrc_orders.proofs.Searching.{copy_same}
use Rattle.lrc_orders.proofs.Stores.{before}
use Rattle.lrc_orders.proofs.Ways.{IsNotedCopy}
use Rattle.lrc_orders_laws.specs.Steps.{IsSettledState, beginning, onward}
use Rattle.lrc_orders_laws.proofs.GoingOn.{state_fine}
use Rattle.lrc_orders_laws.proofs.Rounds.{one_settling}
use Rattle.lrc_orders_laws.proofs.Settled.{state_run, traps}
use Rattle.lrc_orders_settling.specs.declared.step.Step.{Step}
use Rattle.lrc_orders_settling.specs.declared.step.Step.TheVariants.{Alone, Together}
use Rattle.lrc_orders_settling.specs.Taking.{Takes}
use Rattle.lrc_orders_live.specs.Like.{AreLike}
use Rattle.lrc_orders_live.proofs.Alike.{leads_takes, takes_once}
use Rattle.lrc_orders_live.proofs.Like.{like_alike, like_is, takes_like}
use Rattle.lrc_orders_table.specs.declared.rows.Rows.{Rows}
use Rattle.lrc_orders_table.specs.Rows.{IsRowAt, IsRowPlace, WidensRows, row_count}
use Rattle.lrc_orders_table.proofs.Noting.{traps_again}
use Rattle.lrc_orders_table.proofs.RowLaws.{row_copy, row_store, row_within}
use Rattle.lrc_exec.specs.Follows.{nodes_of_acts}
use Rattle.lrc_explore.specs.declared.task.Task.{Task}
use Rattle.lrc_explore.specs.declared.task.Origin.{Origin}
use Rattle.lrc_explore.specs.declared.task.Found.{Found}
use Rattle.lrc_explore.specs.declared.task.Trapping.TheVariants as trapping
use Rattle.lrc_explore.specs.Reached.{AreExpanded, AreFound, AreReached, CannotTake, HasStart, HasTakenTo, SettlesStart}
use Rattle.lrc_explore.specs.Told.{LeadTo}
use Rattle.lrc_explore.specs.Traps.{IsStepTrapAt, IsTrapStepAt, IsTrapping, LeadIntoTrap, NowhereTraps, ShowsStartTrap, ShowsTrap, ShowsTrapAt, StartTraps, StepTraps, first_step}
use Rattle.lrc_explore.proofs.Keys.{no_node}
use Rattle.lrc_explore.proofs.Reaching.{all_reached, fine_key, further}

-- ---- the start

pub start_shown : (task : Task) (acts : List Act) (state : State) → SettlesStart task [] acts state → ShowsStartTrap task (has_trap acts)
start_shown task acts state s = record {
  each = λ others machine settles. ap has_trap ((one_settling settles s.settles.settles).0 ∙ sym s.made);
  made = λ e. record { acts = s.acts; machine = s.settles.there; settles = s.settles.settles; traps = ap has_trap (sym s.made) ∙ e };
}

pub start_led : (task : Task) (acts : List Act) (state : State) → SettlesStart task [] acts state → StartTraps task → LeadIntoTrap task acts
start_led task acts state s t = record {
  machine = s.settles.there;
  led = subst (λ l. IsSettledState task.program.now task.flat.nodes l s.settles.there) (sym s.made) (beginning s.acts s.settles.there s.settles.settles);
  traps = ap has_trap (s.made ∙ sym (one_settling t.settles s.settles.settles).0) ∙ t.traps;
}

-- ---- the steps from a state

pub was_at : (old new : Rows) (place : ℕ) (key : Noted) → WidensRows old new → IsRowPlace old place → IsRowAt new place key → IsRowAt old place key
was_at old new place key w full at = before IsRowAt row_count WidensRows IsNotedCopy row_store old new place key w full at

pub trap_grown : (task : Task) (old new : Rows) (place : ℕ) (step : Step) (traps : Bool) → WidensRows old new → IsRowPlace old place
    → ShowsTrapAt task old place step traps → ShowsTrapAt task new place step traps
trap_grown task old new place step traps w full h key at = h key (was_at old new place key w full at)

-- what is said of the step of all nodes, and of those of the nodes before one
abbrev pub IsTrapAmong : Task → Rows → (place node : ℕ) → Option Step → Type 0
IsTrapAmong task all place node None =
    (key : Noted) → IsRowAt all place key → ShowsTrap task key Together false × ((k : ℕ) → k < node → ShowsTrap task key (Alone k) false)
IsTrapAmong task all place node (Some step) = (key : Noted) → IsRowAt all place key → StepTraps task key step

pub among_first : (task : Task) (all : Rows) (place : ℕ) (traps : Bool) → ShowsTrapAt task all place Together traps
    → IsTrapAmong task all place 0 (first_step None traps Together)
among_first task all place true h = λ key at. (h key at).made refl
among_first task all place false h = λ key at. (h key at, λ k lt. absurd (omega (arith, lt)))

pub among_on : (task : Task) (old new : Rows) (place node : ℕ) (trap : Option Step) (traps : Bool) → WidensRows old new → IsRowPlace old place
    → IsTrapAmong task old place node trap → ShowsTrapAt task new place (Alone node) traps
    → IsTrapAmong task new place (node + 1) (first_step trap traps (Alone node))
among_on task old new place node (Some step) traps w full so h = λ key at. so key (was_at old new place key w full at)
among_on task old new place node None true w full so h = λ key at. (h key at).made refl
among_on task old new place node None false w full so h = λ key at.
    let o = so key (was_at old new place key w full at) in (
      o.0,
      λ k lt. elim (cases_eq k node) [
        | inl same ↦ subst (λ n. ShowsTrap task key (Alone n) false) (sym same) (h key at)
        | inr apart ↦ o.1 k (omega (arith, lt, apart))
      ],
    )

-- what is said where a step more is cut short
pub among_named : (task : Task) (old new : Rows) (place node : ℕ) (trap : Option Step) → WidensRows old new
    → IsRowPlace old place → IsTrapAmong task old place node trap → IsTrapStepAt task new place trap
among_named task old new place node None w full so = tt
among_named task old new place node (Some step) w full so = λ key at. so key (was_at old new place key w full at)

pub among_all : (task : Task) (all : Rows) (place last : ℕ) (trap : Option Step) → AreReached task all → task.flat.nodes ≤ last
    → IsTrapAmong task all place last trap → IsStepTrapAt task all place trap
among_all task all place last (Some step) reached le so = λ key at. so key at
among_all task all place last None reached le so = λ key at. by_step key at
  where
    by_step : (key : Noted) → IsRowAt all place key → (step : Step) (acts : List Act) (after : Plain) → Takes (plain_at task.flat key.state) step acts after
        → has_trap acts ≡ false
    by_step key at Together acts after takes = (so key at).0.each acts after takes
    by_step key at (Alone node) acts after takes = elim (cases_lt node last) [
      | inl lt ↦ ((so key at).1 node lt).each acts after takes
      | inr past ↦
          let e = (reached.each place key at).valid.spots in
          absurd (no_node task key.state node (omega (arith, le, past, e)) acts after takes)
    ]

-- ---- where all states are expanded

module _ (task : Task) (all : Rows) (reached : AreReached task all) (start : HasStart task all) (expanded : AreExpanded task all (row_count all))
    (nowhere : NowhereTraps task all (row_count all)) where
  trapless : {acts : List Act} {machine : Plain} → IsSettledState task.program.now task.flat.nodes acts machine → has_trap acts ≡ false
  trapless (beginning acts machine settles) = nowhere.start acts machine settles
  trapless (onward acts more before after state leads) =
      let has = all_reached task all reached start expanded state in
      let key = has.key in
      let r = reached.each has.place key has.there in
      let st = leads_takes leads in
      let on = takes_like st.1 (state_fine state) (plain_at task.flat key.state) (fine_key task key r) has.alike in
      traps_again acts more ∙ ap (λ b. b || has_trap more) (trapless state)
      ∙ nowhere.steps has.place key (row_within all has.place key has.there) has.there st.0 more on.there on.takes

  pub never_traps : NeverTraps task.program.now task.flat.nodes
  never_traps = (traps task.program.now task.flat.nodes).1 (λ acts machine state. trapless state)

-- an order in which a node traps
pub node_traps : (task : Task) (acts : List Act) → LeadIntoTrap task acts → NodeTraps task.program.now task.flat.nodes (nodes_of_acts acts)
node_traps task acts l = record { acts = acts; machine = l.machine; led = state_run l.led; traps = l.traps }

-- ---- the way into a trap

or_true : (b : Bool) → (b || true) ≡ true
or_true true = refl
or_true false = refl

module _ (task : Task) (found : Found) (origin : Origin) (key : Noted) (f : AreFound task found) (there : IsRowAt found.table.rows origin.parent key)
    (t : IsTrapping task found.table.rows (trapping.Step origin)) where
  takes_it : Takes (plain_at task.flat key.state) origin.step t.2.acts t.2.after
  takes_it =
      let copy = row_copy found.table.rows origin.parent t.0 key t.1 there in
      subst (λ m. Takes m origin.step t.2.acts t.2.after) (copy_same task.flat t.0.state key.state copy.state) t.2.takes

  pub led_into : (acts later : List Act) (o : Option State) → LeadTo task found origin.parent acts
      → MatchOption o (CannotTake task key.state origin.step × (later ≡ acts)) (HasTakenTo task key.state origin.step acts later) → LeadIntoTrap task later
  led_into acts later None led cannot = absurd (cannot.0 t.2.acts t.2.after takes_it)
  led_into acts later (Some state) led h =
      let r = f.reached.each origin.parent key there in
      let copy = row_copy found.table.rows origin.parent led.key key led.there there in
      let alike : AreLike led.machine (plain_at task.flat key.state) = like_is led.alike (copy_same task.flat led.key.state key.state copy.state) in
      let next = further task key r acts led.machine led.led alike origin.step h.acts (plain_at task.flat state)
      (record { there = h.takes.there; takes = h.takes.takes; alike = like_alike h.takes.alike }) in
      let one = takes_once h.takes.takes takes_it in
      record {
        machine = next.machine;
        led = subst (λ l. IsSettledState task.program.now task.flat.nodes l next.machine) (sym h.made) next.led;
        traps =
            ap has_trap h.made ∙ traps_again acts h.acts ∙ ap (λ b. has_trap acts || b) (ap has_trap one.0 ∙ t.2.traps) ∙ or_true (has_trap acts);
      }
