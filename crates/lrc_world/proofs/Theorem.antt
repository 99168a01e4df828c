-- What every run and every report promises: the sequential-consistency theorem among it.
use Rattle.std.proofs.Common.{◌≡◌, ◌∙◌, ℕ, ◌<◌, false, List, map, sym, subst}
use Rattle.std.proofs.lemmas.Option.{same_Some}
use Rattle.std.specs.Prelude.{Some}
use Rattle.lrc_program.specs.declared.Program.{Program}
use Rattle.lrc_trace.specs.declared.act.Act.{Act}
use Rattle.lrc_protocol.specs.declared.event.Event.{Event}
use Rattle.lrc_protocol.specs.Node.{OptionsRecord}
use Rattle.lrc_order_laws.proofs.Timed.{synchronized}
use Rattle.lrc_order_laws.proofs.Reached.{IsReached}
use Rattle.lrc_reading_laws.proofs.Whole.{reads}
use Rattle.lrc_reading_laws.proofs.Lazy.Theorem.{is_plain, is_plain_to_race, is_race_free}
use Rattle.lrc_protocol.specs.Run.{World as Run, run_of}
use Rattle.lrc_trace.specs.declared.end.End.{End}
use Rattle.lrc_world.specs.declared.report.Report.{Report}
use Rattle.lrc_world.specs.Promises.{AreKept, IsConsistent}
use Rattle.lrc_world.specs.Report.{IsReportOf, end_of_logged}
use Rattle.lrc_world.specs.World.{sends_long}
use Rattle.lrc_world.proofs.EndsOfRuns.{ends_of_acts}
use Rattle.lrc_world.proofs.Moments.{refuses_none, each_token, covered_acts}

module _ (program : Program) (nodes : ℕ) (options : OptionsRecord) (events : List Event) (acts : List Act) (run : Run)
    (runs : run_of program nodes options events ≡ Some run) (same : acts ≡ run.acts) where
  reached : IsReached program nodes options run
  reached = record { events = events; runs = runs }

  -- the theorem, of the run's acts and so of these
  pub consistent_acts : IsConsistent program nodes acts
  consistent_acts = subst (IsConsistent program nodes) (sym same) (record {
    synchronized = synchronized program nodes options events run runs;
    lazy = reads program nodes options run reached;
    consistent = is_plain program nodes options (reads program nodes options) run reached;
    first = is_plain_to_race program nodes options (reads program nodes options) run reached;
    unraced = is_race_free program nodes options (reads program nodes options) run reached;
  })

  -- all that a run with no message that is too long promises
  pub all_kept : 0 < nodes → sends_long run ≡ false → (ends : List End) → ends ≡ map end_of_logged run.nodes
      → AreKept program nodes options events acts ends
  all_kept some short ends told = record {
    ended = ends_of_acts program nodes options events acts ends run runs same told;
    accepted = refuses_none program nodes options events;
    tokens = each_token program nodes options events some;
    covered = covered_acts program nodes options events acts run runs same;
    short = λ other found. subst (λ (r : Run). sends_long r ≡ false) (same_Some run other (sym runs ∙ found)) short;
    theorem = consistent_acts;
  }

module _ (program : Program) (nodes : ℕ) (options : OptionsRecord) (events : List Event) (report : Report)
    (is : IsReportOf program nodes options events report) where
  -- the theorem, of what is reported
  pub reports_consistently : IsConsistent program nodes report.acts.items
  reports_consistently = consistent_acts program nodes options events report.acts.items is.0 is.1 is.2.acts
