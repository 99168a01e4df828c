-- What is shown of a run's turns, and why it is not.
use Rattle.std.proofs.Common.{◌≡◌, ℕ, List, Option, subst, sym}
use Rattle.lrc_trace.specs.declared.act.Act.{Act}
use Rattle.lrc_program.specs.declared.Program.{Program}
use Rattle.lrc_source.specs.Telling.{ReadText}
use Rattle.lrc_world.specs.declared.run.Run.{Run}
use Rattle.lrc_cli_args.specs.declared.choice.Form.{Form}
use Rattle.lrc_cli_args.specs.declared.choice.Form.TheVariants.{States}
use Rattle.lrc_cli_args.specs.declared.choice.Part.{Part}
use Rattle.lrc_cli_args.specs.declared.choice.RunChoice.{RunChoice}
use Rattle.lrc_cli_args.specs.declared.choice.RunOptions.{RunOptions}
use Rattle.lrc_cli_args.specs.declared.choice.Shape.TheVariants.{Step, Trace}
use Rattle.lrc_cli_answer.specs.declared.fault.Fault.{Fault}
use Rattle.lrc_cli_answer.specs.declared.fault.Fault.TheVariants.{NoMemory, TooManyTurns}
use Rattle.lrc_cli_runs.specs.Explained.{IsExplained}
use Rattle.lrc_cli_runs.specs.Shown.{IsShowFault, IsTraceFault}
use Rattle.lrc_cli_runs.specs.Stated.{IsStatesFault}

-- a report with reasons, of acts that are these, and its text that is this
pub explained_so : (text : ReadText) (program : Program) (options : RunOptions) (acts read : List Act) (first_race : Option ℕ) (told out : List ℕ)
    → read ≡ acts → out ≡ told → IsExplained text program options read first_race told → IsExplained text program options acts first_race out
explained_so text program options acts read first_race told out are is explains =
    subst (λ (o : List ℕ). IsExplained text program options acts first_race o) (sym is)
    (subst (λ (l : List Act). IsExplained text program options l first_race told) are explains)

-- why the turns are not shown is why there is no trace of them
pub states_untraced : (part : Part) (text : ReadText) (program : Program) (options : RunOptions) (run : Run) (fault : Fault)
    → IsStatesFault part text program options run fault → IsTraceFault (States part) text program options run fault
states_untraced part text program options run TooManyTurns why = why
states_untraced part text program options run NoMemory why = tt
states_untraced part text program options run _ why = absurd why

-- why there is no trace is why the run is not shown so
pub trace_unshown : (form : Form) (choice : RunChoice) (text : ReadText) (program : Program) (run : Run) (fault : Fault)
    → IsTraceFault form text program choice.options run fault → IsShowFault (Trace form) choice text program run fault
trace_unshown form choice text program run TooManyTurns why = why
trace_unshown form choice text program run NoMemory why = tt
trace_unshown form choice text program run _ why = absurd why

-- and so is why there is no document
pub step_unshown : (part : Part) (choice : RunChoice) (text : ReadText) (program : Program) (run : Run) (fault : Fault)
    → IsStatesFault part text program choice.options run fault → IsShowFault (Step part) choice text program run fault
step_unshown part choice text program run TooManyTurns why = why
step_unshown part choice text program run NoMemory why = tt
step_unshown part choice text program run _ why = absurd why
