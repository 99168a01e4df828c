-- A run, from what its functions say of it.
use Rattle.std.proofs.Common.{◌≡◌, ◌∙◌, ◌↔◌, ◌≤◌, ◌<◌, inl, inr, ℕ, List, [], ◌∷◌, ◌++◌, IfOk, IfErr, Result, Ok, Err, Some, true, subst, sym, ap, arith, length, map}
use Rattle.lrc_program.specs.declared.Program.{Program}
use Rattle.lrc_race.specs.Races.{AreRacesOf}
use Rattle.lrc_protocol.specs.declared.event.Event.{Event}
use Rattle.lrc_protocol.specs.Node.{OptionsRecord}
use Rattle.lrc_protocol.specs.Run.{World as Made, fresh_world, run_of, turns_of_logs}
use Rattle.lrc_world.specs.declared.keep.Keep.{Keep}
use Rattle.lrc_world.specs.declared.lead.Lead.{Lead}
use Rattle.lrc_world.specs.declared.lead.Lead.TheVariants.{Random, Rounds}
use Rattle.lrc_world.specs.declared.run.Run.{Run}
use Rattle.lrc_world.specs.declared.world.World.{World}
use Rattle.lrc_world.specs.Driven.{schedule_of}
use Rattle.lrc_world.specs.Led.{Led, Schedule, WearsOut}
use Rattle.lrc_world.specs.declared.keep.Keep.TheVariants.{Turns}
use Rattle.lrc_world.specs.Origins.{AreOriginsOf}
use Rattle.lrc_world.specs.Report.{AreAll, IsKeptReport, IsOver, IsReportOf, IsWornBy, IsWornFault}
use Rattle.lrc_world.specs.declared.report.TurnFault.{TurnFault}
use Rattle.lrc_world.specs.declared.report.TurnFault.TheVariants.{NoMemory, Worn}
use Rattle.lrc_world.specs.Runs.{AreFollowed, AreLedToEnd, IsRunBy, WearsOutBehind}
use Rattle.lrc_world.specs.Turned.{AreTurnedFrom, when_all, turned_of}
use Rattle.lrc_world.specs.World.{Starts, Shows, starts_of}
use Rattle.lrc_world.proofs.Races.{kept_races}
use Rattle.lrc_world.proofs.Theorem.{all_kept}
use Rattle.lrc_world.proofs.Unskipped.{rounds_unskipped, wandering_unskipped}

-- the run of some events, after which the world shows what they made
pub run_is : (AreIts : List Event → Type 0) (program : Program) (nodes : ℕ) (options : OptionsRecord) (keep : Keep) (events : List Event)
    (run : Run) (world : World) (made : Made) → run.events.items ≡ events → AreIts run.events.items → run_of program nodes options events ≡ Some made
    → 1 ≤ nodes → Shows (starts_of program nodes options keep) world made
    → ((starts : Starts) (made : Made) → Shows starts world made → (run.is_over ≡ true) ↔ IsOver made)
    → ((starts : Starts) (made : Made) → Shows starts world made → IsKeptReport starts.keep run.report made)
    → AreRacesOf (map (λ node. node.trace) world.nodes.items) run.report.races.items
    → AreOriginsOf keep program nodes (turns_of_logs run.report.logs.items) run.turned.items run.report.acts.items run.origins
    → run.turned.items ≡ when_all keep (turned_of program nodes options events)
    → IsRunBy AreIts program nodes options keep run
run_is AreIts program nodes options keep events run world made same its makes some shows over report races origins turned =
    let told = report (starts_of program nodes options keep) made shows in
    let plays = ap (run_of program nodes options) same ∙ makes in
    record {
      events = its;
      made = made;
      makes = plays;
      report = told;
      turned = turned ∙ ap (λ es. when_all keep (turned_of program nodes options es)) (sym same);
      origins = origins;
      races = kept_races program nodes options events made makes world keep shows run.report.acts.items run.report.races.items told.acts races;
      over = over (starts_of program nodes options keep) made shows;
      kept = all_kept program nodes options run.events.items run.report.acts.items made plays told.acts (omega (arith, some)) shows.short
          run.report.ends.items told.ends;
    }

-- the same run, where its events are so too
pub as_they_are : (AreIts AreSo : List Event → Type 0) (program : Program) (nodes : ℕ) (options : OptionsRecord) (keep : Keep) (run : Run)
    → ((events : List Event) → AreIts events → AreSo events) → IsRunBy AreIts program nodes options keep run
    → IsRunBy AreSo program nodes options keep run
as_they_are AreIts AreSo program nodes options keep run so is = record {
  events = so run.events.items is.events;
  made = is.made;
  makes = is.makes;
  report = is.report;
  turned = is.turned;
  origins = is.origins;
  races = is.races;
  over = is.over;
  kept = is.kept;
}

-- none of the events is skipped that follow, led so
pub led_unskipped : (program : Program) (nodes : ℕ) (options : OptionsRecord) (given : List Event) (start : Made)
    → run_of program nodes options given ≡ Some start → (lead : Lead) (events : List Event) (end : Made)
    (at : (schedule_of nodes lead).Standing) → Led (schedule_of nodes lead) start events end at → AreTurnedFrom start events
led_unskipped program nodes options given start begins (Rounds picker) events end at led =
    rounds_unskipped program nodes options given start begins picker events end at led
led_unskipped program nodes options given start begins (Random seed) events end at led =
    wandering_unskipped program nodes options given start begins seed events end at led

module _ (s : Schedule) (program : Program) (nodes : ℕ) (options : OptionsRecord) where
  same_start : (start : Made) → run_of program nodes options [] ≡ Some start → fresh_world program nodes options ≡ start
  same_start start is = cc

  -- what follows no events is led from the beginning
  from_start : (events : List Event) → AreFollowed s [] program nodes options events → AreLedToEnd s program nodes options events
  from_start events followed =
      let f = followed.2 in
      let same = sym followed.1 in
      let begun = sym (same_start f.start f.starts) in
      record {
        led = (f.end, f.at, subst (λ es. Led s (fresh_world program nodes options) es f.end f.at) same (subst (λ w. Led s w followed.0 f.end f.at) begun f.led));
        unskipped = subst (AreTurnedFrom (fresh_world program nodes options)) same (subst (λ w. AreTurnedFrom w followed.0) begun f.unskipped);
        few = subst (λ es. length es ≤ 100000000) same f.few;
        over = λ below. subst (AreAll program nodes options) same (f.over (subst (λ es. length es < 100000000) followed.1 below));
      }

  pub led_alone : {before : List Event} (keep : Keep) (r : Result Run TurnFault)
      → IfOk r (IsRunBy (AreFollowed s before program nodes options) program nodes options keep) → before ≡ []
      → IfOk r (IsRunBy (AreLedToEnd s program nodes options) program nodes options keep)
  led_alone {before} keep (Ok run) is none =
      as_they_are (AreFollowed s before program nodes options) (AreLedToEnd s program nodes options) program nodes options keep run
      (λ events followed. from_start events (subst (λ b. AreFollowed s b program nodes options events) none followed)) is
  led_alone keep (Err fault) is none = is

  none_worn : IsWornBy program nodes options [] → ⊥
  none_worn worn = no_split worn.before worn.event worn.after worn.split
    where
      no_split : (before : List Event) (event : Event) (after : List Event) → [] ≡ before ++ event ∷ after → ⊥
      no_split [] event after e = cc
      no_split (x ∷ before) event after e = cc

  worn_from_start : WearsOutBehind s [] program nodes options → WearsOut s (fresh_world program nodes options)
  worn_from_start (inl worn) = absurd (none_worn worn)
  worn_from_start (inr later) = subst (WearsOut s) (sym (same_start later.0 later.1)) later.2

  pub worn_alone : {before : List Event} (r : Result Run TurnFault) → IfErr r (IsWornFault (WearsOutBehind s before program nodes options))
      → before ≡ [] → IfErr r (IsWornFault (WearsOut s (fresh_world program nodes options)))
  worn_alone (Ok run) is none = is
  worn_alone {before} (Err Worn) is none = worn_from_start (subst (λ b. WearsOutBehind s b program nodes options) none is)
  worn_alone (Err NoMemory) is none = is

-- what is answered where there is a run
pub ran : {E : Type 0} (r : Result Run E) (run : Run) (P : Run → Type 0) → r ≡ Ok run → IfOk r P → P run
ran r run P is holds = subst (λ x. IfOk x P) is holds

-- the report of a run that keeps all turns
pub report_of : (AreIts : List Event → Type 0) (program : Program) (nodes : ℕ) (options : OptionsRecord) (run : Run)
    → IsRunBy AreIts program nodes options Turns run → IsReportOf program nodes options run.events.items run.report
report_of AreIts program nodes options run is =
    (is.made, is.makes, record { acts = is.report.acts; ends = is.report.ends; logs = is.report.logs; first = is.report.first })
