-- What is answered to a choice of a run: what is shown of it and the status behind it, or the first fault.
use Rattle.std.specs.Prelude.{◌≡◌, ◌⊎◌, ℕ, List, Option, Result, Ok, Err}
use Rattle.lrc_program.specs.declared.Program.{Program}
use Rattle.lrc_world.specs.declared.run.Run.{Run}
use Rattle.lrc_source.specs.Telling.{ReadText}
use Rattle.lrc_text.specs.Parts.{whole_text}
use Rattle.lrc_cli_answer.specs.Texts.{IsTextFault, IsTextOf}
use Rattle.lrc_cli_answer.specs.declared.fault.Fault.{Fault}
use Rattle.lrc_cli_answer.specs.declared.printout.Printout.{Printout}
use Rattle.lrc_cli_args.specs.declared.choice.RunChoice.{RunChoice}
use Rattle.lrc_cli_args.specs.declared.choice.Shape.{Shape}
use Rattle.lrc_cli_runs.specs.Runs.{IsRunFault, IsRunOfWay}
use Rattle.lrc_cli_runs.specs.Shown.{IsShowFault, IsShown, keep_for, shown_status}

-- the text is what is shown of a run of the program, and the status is the one behind it
pub record IsShowing (choice : RunChoice) (shape : Shape) (text : ReadText) (events_text : Option (List ℕ)) (program : Program)
    (out : List ℕ) (status : ℕ) : Type 0 where
  pub run : Run
  pub ran : IsRunOfWay choice.way program choice.options events_text (keep_for shape) run
  pub shown : IsShown shape choice text program run out
  pub ended : status ≡ shown_status shape run.report.first_race run.report.ends.items

-- a run of the program was made, and is not shown
pub record IsUnshown (choice : RunChoice) (shape : Shape) (text : ReadText) (events_text : Option (List ℕ)) (program : Program)
    (fault : Fault) : Type 0 where
  pub run : Run
  pub ran : IsRunOfWay choice.way program choice.options events_text (keep_for shape) run
  pub unshown : IsShowFault shape choice text program run fault

-- the text and the status are what is shown of a run of the program that the text of this program is of
abbrev pub ShowsRun : RunChoice → Shape → ReadText → Option (List ℕ) → List ℕ → ℕ → Type 0
ShowsRun choice shape text events_text out status =
    (program : Program) × IsTextOf text.core program × IsShowing choice shape text events_text program out status

-- The first fault: of the text, then of the events, then of the run, then of what is shown of it. Memory may run out at any time.
abbrev pub RefusesRun : RunChoice → Shape → ReadText → Option (List ℕ) → Fault → Type 0
RefusesRun choice shape text events_text fault = IsTextFault text.core fault
    ⊎ ((program : Program) × IsTextOf text.core program
    × (IsRunFault choice.way program choice.options events_text fault ⊎ IsUnshown choice shape text events_text program fault))

-- what is answered: what is shown, or the first fault
abbrev pub AnswersShowing : RunChoice → Shape → ReadText → Option (List ℕ) → Result Printout Fault → Type 0
AnswersShowing choice shape text events_text (Ok printout) = ShowsRun choice shape text events_text (whole_text printout.parts.items) printout.status
AnswersShowing choice shape text events_text (Err fault) = RefusesRun choice shape text events_text fault
