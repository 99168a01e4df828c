-- What is known of a run that was made.
use Rattle.std.proofs.Common.{◌≡◌, ◌∙◌, ◌<◌, ◌≤◌, ℕ, List, ap, All as Every, IfOk, Option, None, Some, Result, Ok, Err, arith, get_or, sym, subst}
use Rattle.lrc_clock.specs.Keeping.{KeepsTime}
use Rattle.lrc_program.specs.declared.Program.{Program}
use Rattle.lrc_lines.specs.Statements.{act_statements}
use Rattle.lrc_timeline.specs.Timeline.{times_in}
use Rattle.lrc_trace.specs.declared.act.Act.{Act}
use Rattle.lrc_events.specs.EventsText.{ReadsEvents}
use Rattle.lrc_protocol.specs.declared.event.Event.{Event}
use Rattle.lrc_protocol.specs.Node.{OptionsRecord}
use Rattle.lrc_order_laws.proofs.TimesOfRuns.{acts_of_nodes}
use Rattle.lrc_cli_args.specs.declared.choice.RunOptions.{RunOptions}
use Rattle.lrc_cli_args.specs.declared.choice.Shape.{Shape}
use Rattle.lrc_cli_args.specs.declared.choice.Then.{Then}
use Rattle.lrc_cli_args.specs.declared.choice.Way.{Way}
use Rattle.lrc_cli_args.specs.declared.choice.Way.TheVariants as ways
use Rattle.lrc_world.specs.Report.{IsWornBy}
use Rattle.lrc_world.specs.Driven.{schedule_of}
use Rattle.lrc_world.specs.Runs.{AreFollowed, IsRunBy, WearsOutBehind}
use Rattle.lrc_world.specs.World.{with_turns}
use Rattle.lrc_world.specs.declared.keep.Keep.{Keep}
use Rattle.lrc_world.specs.declared.keep.Keep.TheVariants.{All}
use Rattle.lrc_world.specs.declared.run.Run.{Run}
use Rattle.lrc_cli_runs.specs.Runs.{IsFollowedFault, IsFollowedRun, IsLedFault, IsPlayedFault, IsRunOfWay, IsRunWith, lead_of, options_of, turns_in}
use Rattle.lrc_cli_runs.specs.Shown.{IsRunFor, keep_for}
use Rattle.lrc_cli_answer.specs.declared.fault.Fault.{Fault}
use Rattle.lrc_cli_answer.specs.declared.fault.Fault.TheVariants.{Worn, NoMemory}

-- a run is a run by other events that its events are
pub of_events : (AreIts AreOthers : List Event → Type 0) (program : Program) (nodes : ℕ) (options : OptionsRecord) (keep : Keep) (run : Run)
    → IsRunBy AreIts program nodes options keep run → AreOthers run.events.items → IsRunBy AreOthers program nodes options keep run
of_events AreIts AreOthers program nodes options keep run is others = record {
  events = others;
  made = is.made;
  makes = is.makes;
  report = is.report;
  turned = is.turned;
  origins = is.origins;
  races = is.races;
  over = is.over;
  kept = is.kept;
}

-- the run of the events that a text names, from that of a list of events
pub of_text : (program : Program) (nodes : ℕ) (options : OptionsRecord) (keep : Keep) (text : List ℕ) (given : List Event)
    (r : Result Run Fault) → ReadsEvents text (Ok given)
    → IfOk r (IsRunBy (λ events. events ≡ given) program nodes options keep)
    → IfOk r (IsRunBy (λ events. ReadsEvents text (Ok events)) program nodes options keep)
of_text program nodes options keep text given (Err fault) reads is = tt
of_text program nodes options keep text given (Ok run) reads is =
    of_events (λ events. events ≡ given) (λ events. ReadsEvents text (Ok events)) program nodes options keep run is
    (subst (λ events. ReadsEvents text (Ok events)) (sym is.events) reads)

-- the same of a run that goes on behind them
pub of_text_followed : (program : Program) (options : RunOptions) (keep : Keep) (text : List ℕ) (next : Then) (given : List Event)
    (r : Result Run Fault) → ReadsEvents text (Ok given)
    → IfOk r (IsRunBy (AreFollowed (schedule_of options.nodes.count (lead_of next)) given program options.nodes.count (options_of options))
    program options.nodes.count (options_of options) keep)
    → IfOk r (IsFollowedRun program options text next keep)
of_text_followed program options keep text next given (Err fault) reads is = tt
of_text_followed program options keep text next given (Ok run) reads is = (given, reads, is)

-- and why there is none
pub followed_fault : (program : Program) (options : RunOptions) (text : List ℕ) (next : Then) (given : List Event) → ReadsEvents text (Ok given)
    → (fault : Fault)
    → IsLedFault (WearsOutBehind (schedule_of options.nodes.count (lead_of next)) given program options.nodes.count (options_of options)) fault
    → IsFollowedFault program options text next fault
followed_fault program options text next given reads Worn why = (given, reads, why)
followed_fault program options text next given reads NoMemory why = tt
followed_fault program options text next given reads _ why = absurd why

-- why there is no run of the events of a text
pub played_fault : (program : Program) (options : RunOptions) (text : List ℕ) (given : List Event) → ReadsEvents text (Ok given) → (fault : Fault)
    → IsLedFault (IsWornBy program options.nodes.count (options_of options) given) fault → IsPlayedFault program options text fault
played_fault program options text given reads Worn why = (given, reads, why)
played_fault program options text given reads NoMemory why = tt
played_fault program options text given reads _ why = absurd why

-- a run of the program, whichever its events are
pub run_with : (AreIts : List Event → Type 0) (program : Program) (options : RunOptions) (keep : Keep) (run : Run)
    → IsRunBy AreIts program options.nodes.count (options_of options) keep run → IsRunWith program options keep run
run_with AreIts program options keep run is =
    of_events AreIts (λ events. Unit {0}) program options.nodes.count (options_of options) keep run is tt

-- the run that goes on in some way, with what is kept for what is shown of it
pub run_for : (way : Way) (shape : Shape) (program : Program) (options : RunOptions) (events_text : Option (List ℕ)) (run : Run)
    → IsRunOfWay way program options events_text (keep_for shape) run → IsRunFor shape program options run
run_for (ways.Events file) shape program options None run is = absurd is
run_for (ways.Events file) shape program options (Some text) run is = (keep_for shape, λ e. e, run_with _ program options (keep_for shape) run is)
run_for (ways.Followed file next) shape program options None run is = absurd is
run_for (ways.Followed file next) shape program options (Some text) run is =
    (keep_for shape, λ e. e, run_with _ program options (keep_for shape) run is.2)
run_for (ways.Rounds order) shape program options events_text run is = (keep_for shape, λ e. e, run_with _ program options (keep_for shape) run is)
run_for (ways.Random seed) shape program options events_text run is = (keep_for shape, λ e. e, run_with _ program options (keep_for shape) run is)
run_for (ways.Threads order) shape program options events_text run is =
    (with_turns (keep_for shape), λ e. ap with_turns e, run_with _ program options (with_turns (keep_for shape)) run is.1.made)

-- where all of a run is told of, all is kept
pub whole_run : (shape : Shape) (program : Program) (options : RunOptions) (run : Run) → IsRunFor shape program options run → keep_for shape ≡ All
    → IsRunWith program options All run
whole_run shape program options run is whole = subst (λ keep. IsRunWith program options keep run) (is.1 whole) is.2

module _ (program : Program) (options : RunOptions) (keep : Keep) (run : Run) (is : IsRunWith program options keep run) where
  -- its acts are of its nodes
  pub acts_in_range : Every (λ act. act.node < options.nodes.count) run.report.acts.items
  acts_in_range =
      subst (λ (acts : List Act). Every (λ act. act.node < options.nodes.count) acts) (sym is.report.acts)
      (acts_of_nodes program options.nodes.count (options_of options) run.events.items is.made is.makes)

  -- so they are of at most 16
  pub acts_of_few : Every (λ act. act.node < 16) run.report.acts.items
  acts_of_few = λ position d lt.
      let here : (get_or run.report.acts.items position d).node < options.nodes.count = acts_in_range position d lt in
      let few : options.nodes.count ≤ 16 = options.nodes.few in
      omega arith

module _ (program : Program) (options : RunOptions) (run : Run) (acts : List Act) (is : IsRunWith program options All run)
    (same : acts ≡ run.report.acts.items) where
  -- the statements of its acts are kept
  pub statements_of : (found : List ℕ) → found ≡ run.origins.statements.items → found ≡ act_statements program options.nodes.count acts
  statements_of found read = read ∙ is.origins.statements ∙ ap (act_statements program options.nodes.count) (sym same)

  -- and their times
  pub times_of : KeepsTime options.nodes.count acts (times_in run.origins.times)
  times_of = subst (λ (acts : List Act). KeepsTime options.nodes.count acts (times_in run.origins.times)) (sym same) is.origins.times

-- the turns that its events make are kept, where all is
pub turned_whole : (program : Program) (options : RunOptions) (run : Run) → IsRunWith program options All run
    → run.turned.items ≡ turns_in program options run.events.items
turned_whole program options run is = is.turned
