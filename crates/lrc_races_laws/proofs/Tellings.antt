-- What is told of the texts of a run.
use Rattle.std.proofs.Common.{◌≡◌, ℕ, ◌^◌, ◌<◌, Bool, List, [], ◌∷◌, length, sym, subst, refl}
use Rattle.std.specs.Prelude.{Option, Some, None, slice_get}
use Rattle.lrc_program.specs.declared.Program.{Program}
use Rattle.lrc_trace.specs.declared.act.Act.{Act}
use Rattle.lrc_trace.specs.declared.act.Deed.{Deed}
use Rattle.lrc_trace.specs.declared.act.Deed.TheVariants as deeds
use Rattle.lrc_races_trace.specs.declared.event.Event.{Event}
use Rattle.lrc_races_trace.specs.declared.fault.Fault.{Fault}
use Rattle.lrc_races_trace.specs.Formed.{IsFirstFault, IsWellFormed}
use Rattle.lrc_consistency_laws.proofs.UpToRace.{in_range}
use Rattle.lrc_protocol.proofs.Texts.{text}
use Rattle.lrc_order_laws.proofs.Timed.{synchronized, waits}
use Rattle.lrc_acts_text.specs.ActsText.{acts_text}
use Rattle.lrc_acts_text.specs.Rapid.{RapidStep, rapid_of, rapid_steps, rapid_text}
use Rattle.lrc_acts_text_laws.proofs.OfRuns.{run_is_of, order_is}
use Rattle.lrc_acts_text_laws.specs.Traces.{DoesStep, IsWellFormed as WellFormedSteps}
use Rattle.lrc_acts_text_laws.proofs.WellFormed.{well_formed, keeps_accesses}
use Rattle.lrc_races_laws.specs.Traces.{AreEvents}
use Rattle.lrc_races_text.specs.declared.asked.Layout.{Layout}
use Rattle.lrc_races_text.specs.declared.form.Form.TheVariants.{Std, Acts}
use Rattle.lrc_races_text.specs.Says.{Said, Say}
use Rattle.lrc_races_text.specs.Told.{Ends, IsCut, IsWholeOf}
use Rattle.lrc_races_laws.proofs.Episodes.{IsRun}
use Rattle.lrc_races_laws.proofs.Formed.{acts_formed}
use Rattle.lrc_races_laws.proofs.Racing.{told_of_acts}
use Rattle.lrc_races_laws.proofs.StepDeeds.{deeds_of_steps}
use Rattle.lrc_races_laws.proofs.StepRaces.{IsTraceOf, told_of_steps}
use Rattle.lrc_races_laws.proofs.StepsFormed.{steps_formed}
use Rattle.lrc_races_laws.specs.Runs.{IsLinedRun}
use Rattle.lrc_races_laws.specs.Said.{acts_said, AreSaid}
use Rattle.lrc_races_laws.specs.Telling.{all_races, TellsActs, TellsRapid}
use Rattle.lrc_races_laws.proofs.ActEvents as of_acts
use Rattle.lrc_races_laws.proofs.ActLines.{acts_good, act_bodies}
use Rattle.lrc_races_laws.proofs.Fronts.{IsGood, ends_said, said_alone}
use Rattle.lrc_races_laws.proofs.Premises.{ranged, low, few, steps_done}
use Rattle.lrc_races_laws.proofs.StepEvents as of_steps
use Rattle.lrc_races_laws.proofs.StepLines.{AreDone, IsDone, IsOneStep, IsStepFor, steps_good, steps_said, bodies}

-- where no event is wrong there is no first one
no_fault : (events : List Event) (n : ℕ) (fault : Option Fault) → IsWellFormed events → IsFirstFault events n fault → fault ≡ None
no_fault events n None well none = refl
no_fault events n (Some fault) well (k, lt, at, ill) = absurd (well k ill.event fault.reason ill.at ill.holds)

-- what a step alone stands for it stands for whatever barriers the node has met
is_always : (s : RapidStep) (node : ℕ) (deed : Deed) → IsOneStep deed → IsStepFor s node deed
    → (meeting : _) → rapid_steps meeting s.position node deed ≡ s ∷ []
is_always s node (deeds.Read w value) one e meeting = e
is_always s node (deeds.Write w value) one e meeting = e
is_always s node (deeds.Acquire l) one e meeting = e
is_always s node (deeds.Release l) one e meeting = e
is_always s node deeds.Arrive one e meeting = absurd one
is_always s node deeds.Depart one e meeting = absurd one
is_always s node deeds.Quiet one e meeting = absurd one
is_always s node (deeds.Print value) one e meeting = absurd one
is_always s node (deeds.Trap cause) one e meeting = absurd one
is_always s node deeds.End one e meeting = absurd one

module _ (program : Program) (nodes : ℕ) (acts : List Act) (lines : List ℕ) (is : IsLinedRun program nodes acts lines) where
  abbrev steps : List RapidStep
  steps = rapid_of program.locks nodes acts

  module _ (short : length acts < 2 ^ 64) where
    abbrev done : List Act
    done = (steps_done program nodes acts lines is short).0

    are_done : AreDone steps done
    are_done = (steps_done program nodes acts lines is short).1

    pub rapid_good : IsGood Std (rapid_text program.locks nodes acts lines) (bodies lines steps done) (steps_said 0 lines steps done)
    rapid_good = steps_good lines (few program nodes acts lines is) are_done

    -- each step does a deed, and that of its act
    does : (k : ℕ) (t : RapidStep) (act : Act) → slice_get steps k ≡ Some t → IsDone t act → DoesStep steps k act.node act.deed
    does k t act at one = record { step = t; stands = at; is = is_always t act.node act.deed one.one one.is }

    pub rapid_said : (parts : List (List ℕ)) (rest : List ℕ) (said : List Said) → IsCut (rapid_text program.locks nodes acts lines) parts rest
        → (Say Std 1 parts said → AreSaid lines steps said) × (AreSaid lines steps said → Say Std 1 parts said)
    rapid_said parts rest said cut =
        let both =
        said_alone Std (rapid_text program.locks nodes acts lines) (bodies lines steps done) (steps_said 0 lines steps done) rapid_good
        parts rest said cut in (
          λ says. subst (λ (s : List Said). AreSaid lines steps s) (sym (both.0 says)) (of_steps.are_said lines are_done),
          λ are. both.1 (of_steps.said_alone lines said are_done does are),
        )

    module _ (group : Bool) (layout : Layout) (status : ℕ) (told : List ℕ) where
      pub rapid_told : Ends Std (all_races group layout) (rapid_text program.locks nodes acts lines) status told → TellsRapid program nodes acts lines group layout status told
      rapid_told ends =
          let same = ends_said Std (rapid_text program.locks nodes acts lines) (bodies lines steps done) (steps_said 0 lines steps done) rapid_good
          ends.lines ends.rest ends.said ends.cut ends.says in
          let whole = subst (λ (s : List Said). IsWholeOf Std (all_races group layout) s status told) same ends.tells in
          let are = of_steps.are_events lines whole.naming whole.events whole.trace are_done in
          let run = run_is_of program nodes is.options is.steps is.world is.runs in
          let of : IsTraceOf nodes is.world.acts (rapid_of program.locks nodes is.world.acts) = record {
            deeds = deeds_of_steps program.locks nodes is.world.acts;
            keeps = keeps_accesses program.locks nodes is.world.acts run;
            order = order_is program nodes is.options is.steps is.world is.runs;
          } in
          let here : IsTraceOf nodes acts steps =
          subst (λ (others : List Act). IsTraceOf nodes others (rapid_of program.locks nodes others)) (sym is.are_acts) of in
          record {
            said = steps_said 0 lines steps done;
            says = of_steps.are_said lines are_done;
            whole = whole;
            placed = of_steps.steps_placed lines whole.naming whole.events whole.trace are_done;
            races = told_of_steps (of_steps.numbering_of whole.naming) nodes acts steps whole.events are here whole.pairs whole.are_told;
            formed = no_fault whole.events (length whole.events) whole.fault
                (steps_formed (of_steps.numbering_of whole.naming) steps whole.events are (deeds_of_steps program.locks nodes acts)
                (subst (λ (others : List Act). WellFormedSteps (rapid_of program.locks nodes others)) (sym is.are_acts)
                (well_formed program.locks nodes is.world.acts run (synchronized program nodes is.options is.steps is.world is.runs))))
                whole.first_fault;
          }

  pub acts_are_good : IsGood Acts (acts_text acts lines) (act_bodies 0 lines acts) (acts_said 0 lines acts)
  acts_are_good = acts_good lines (low program nodes acts lines is) acts (ranged program nodes acts lines is)

  module _ (group : Bool) (layout : Layout) (status : ℕ) (told : List ℕ) where
    pub acts_told : Ends Acts (all_races group layout) (acts_text acts lines) status told → TellsActs acts lines group layout status told
    acts_told ends =
        let same = ends_said Acts (acts_text acts lines) (act_bodies 0 lines acts) (acts_said 0 lines acts) acts_are_good
        ends.lines ends.rest ends.said ends.cut ends.says in
        let whole = subst (λ (s : List Said). IsWholeOf Acts (all_races group layout) s status told) same ends.tells in
        let numbers = of_acts.numbering_of whole.naming in
        let are = of_acts.are_events lines acts whole.naming whole.events whole.trace (ranged program nodes acts lines is) in
        let run : IsRun numbers nodes acts whole.events =
        subst (λ (others : List Act). (AreEvents numbers others whole.events → IsRun numbers nodes others whole.events)) (sym is.are_acts) (λ events. record {
          are = events;
          node = in_range (text program nodes is.options is.steps is.world is.runs);
          synchronized = synchronized program nodes is.options is.steps is.world is.runs;
          waits = waits program nodes is.options is.steps is.world is.runs;
        }) are in
        record {
          whole = whole;
          placed = of_acts.acts_placed lines acts whole.naming whole.events whole.trace (ranged program nodes acts lines is);
          races = told_of_acts numbers nodes acts whole.events run whole.pairs whole.are_told;
          formed = no_fault whole.events (length whole.events) whole.fault (acts_formed numbers nodes acts whole.events run) whole.first_fault;
        }
