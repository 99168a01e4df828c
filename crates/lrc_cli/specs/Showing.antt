-- What is shown of a run, where a named program is read as its core.
use Rattle.std.specs.Prelude.{ℕ, List, Option, Result, Ok, Err}
use Rattle.lrc_cli_answer.specs.declared.fault.Fault.{Fault}
use Rattle.lrc_cli_answer.specs.declared.printout.Printout.{Printout}
use Rattle.lrc_cli_args.specs.declared.choice.RunChoice.{RunChoice}
use Rattle.lrc_cli_args.specs.declared.choice.Shape.{Shape}
use Rattle.lrc_cli_runs.specs.Showing.{RefusesRun, ShowsRun}
use Rattle.lrc_text.specs.Parts.{whole_text}
use Rattle.lrc_cli.specs.Reading.{HoldsAsRead, IsFaultAsRead, run_for}

-- the text and the status are what is shown of a run
abbrev pub ShowsAsRead : RunChoice → Shape → List ℕ → Option (List ℕ) → List ℕ → ℕ → Type 0
ShowsAsRead run shape text events_text out status =
    HoldsAsRead text (λ nodes read. ShowsRun (run_for run nodes) shape read events_text out status)

-- the first fault
abbrev pub RefusesAsRead : RunChoice → Shape → List ℕ → Option (List ℕ) → Fault → Type 0
RefusesAsRead run shape text events_text fault =
    IsFaultAsRead text fault (λ nodes read. RefusesRun (run_for run nodes) shape read events_text fault)

-- what is answered: what is shown, or the first fault
abbrev pub AnswersAsRead : RunChoice → Shape → List ℕ → Option (List ℕ) → Result Printout Fault → Type 0
AnswersAsRead run shape text events_text (Ok printout) =
    ShowsAsRead run shape text events_text (whole_text printout.parts.items) printout.status
AnswersAsRead run shape text events_text (Err fault) = RefusesAsRead run shape text events_text fault
