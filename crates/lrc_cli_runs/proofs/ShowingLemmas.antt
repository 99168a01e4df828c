-- What is answered to a choice of a run: what is shown of it, or a fault.
use Rattle.std.proofs.Common.{◌≡◌, inr, ℕ, List, Option, Result, Ok, Err, IfErr, IfOk}
use Rattle.lrc_program.specs.declared.Program.{Program}
use Rattle.lrc_world.specs.declared.run.Run.{Run}
use Rattle.lrc_cli_answer.specs.Texts.{IsTextOf}
use Rattle.lrc_cli_runs.specs.Runs.{IsRunOfWay}
use Rattle.lrc_cli_runs.specs.Reasoned.{IsUntold, asked_of}
use Rattle.lrc_cli_runs.specs.Showing.{AnswersShowing, RefusesRun, ShowsRun}
use Rattle.lrc_cli_runs.specs.Shown.{IsShowFault, IsShown, keep_for, shown_status}
use Rattle.lrc_source.specs.Telling.{ReadText}
use Rattle.lrc_text.specs.Parts.{whole_text}
use Rattle.lrc_cli_answer.specs.declared.printout.Printout.{Printout}
use Rattle.lrc_cli_answer.specs.FaultLine.{fault_of_why}
use Rattle.lrc_why_run.specs.Answers.{RefusesRun as RefusesWhy}
use Rattle.lrc_why_text.specs.declared.fault.WhyFault.{WhyFault}
use Rattle.lrc_why_text.specs.declared.fault.WhyFault.TheVariants as why_faults
use Rattle.lrc_cli_args.specs.declared.choice.Asking.{Asking}
use Rattle.lrc_cli_args.specs.declared.choice.RunChoice.{RunChoice}
use Rattle.lrc_cli_args.specs.declared.choice.Shape.{Shape}
use Rattle.lrc_cli_answer.specs.declared.fault.Fault.{Fault}

-- what holds of what is shown and of the fault, in one
pub answers_of : (run : RunChoice) (shape : Shape) (text : ReadText) (events : Option (List ℕ)) (r : Result Printout Fault)
    → IfOk r (λ printout. ShowsRun run shape text events (whole_text printout.parts.items) printout.status)
    → IfErr r (λ fault. RefusesRun run shape text events fault) → AnswersShowing run shape text events r
answers_of run shape text events (Ok printout) shows refuses = shows
answers_of run shape text events (Err fault) shows refuses = refuses

-- what is shown of a run of the program that the text is of is what is shown
pub printed_of : (choice : RunChoice) (shape : Shape) (text : ReadText) (events_text : Option (List ℕ)) (program : Program) (run : Run)
    (r : Result Printout Fault) → IsTextOf text.core program → IsRunOfWay choice.way program choice.options events_text (keep_for shape) run
    → IfOk r (λ printout. IsShown shape choice text program run (whole_text printout.parts.items))
    → IfOk r (λ printout. printout.status ≡ shown_status shape run.report.first_race run.report.ends.items)
    → IfOk r (λ printout. ShowsRun choice shape text events_text (whole_text printout.parts.items) printout.status)
printed_of choice shape text events_text program run (Ok printout) is ran shown ended =
    (program, is, record { run = run; ran = ran; shown = shown; ended = ended })
printed_of choice shape text events_text program run (Err fault) is ran shown ended = tt

-- and why it is not shown is the fault
pub unshown_of : (choice : RunChoice) (shape : Shape) (text : ReadText) (events_text : Option (List ℕ)) (program : Program) (run : Run)
    (r : Result Printout Fault) → IsTextOf text.core program → IsRunOfWay choice.way program choice.options events_text (keep_for shape) run
    → IfErr r (IsShowFault shape choice text program run) → IfErr r (RefusesRun choice shape text events_text)
unshown_of choice shape text events_text program run (Ok printout) is ran unshown = tt
unshown_of choice shape text events_text program run (Err fault) is ran unshown =
    inr (program, is, inr (record { run = run; ran = ran; unshown = unshown }))

-- why it is not told of acts of a run, as it is told
pub untold_fault : (asking : Asking) (count : ℕ) (fault : WhyFault) → RefusesWhy (asked_of asking) count fault → IsUntold asking count (fault_of_why fault)
untold_fault asking count (why_faults.NoAct position acts) h = h
untold_fault asking count why_faults.NoMemory h = tt
untold_fault asking count why_faults.TooLong h = absurd h
untold_fault asking count (why_faults.BadAct line) h = absurd h
