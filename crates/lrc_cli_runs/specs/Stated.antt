-- The turns of a run with the states of its nodes, and the document that shows them.
use Rattle.std.specs.Prelude.{◌≡◌, ℕ, ◌+◌, ◌==◌, ◌++◌, ◌∷◌, [], List, Option, None, Some, fold, if◌then◌else◌, length, min}
use Rattle.lrc_program.specs.declared.Program.{Program}
use Rattle.lrc_world.specs.declared.run.Run.{Run}
use Rattle.lrc_cli_args.specs.declared.choice.Form.{Form}
use Rattle.lrc_cli_args.specs.declared.choice.Form.TheVariants.{States}
use Rattle.lrc_cli_args.specs.declared.choice.Part.{Part}
use Rattle.lrc_cli_args.specs.declared.choice.RunOptions.{RunOptions}
use Rattle.lrc_source.specs.Telling.{ReadText, shown_text}
use Rattle.lrc_states.specs.States.{AreStates, IsUnshown, Told}
use Rattle.lrc_states.specs.declared.fault.StatesFault.TheVariants.{TooLong}
use Rattle.lrc_states.specs.declared.told.Range.{Range}
use Rattle.lrc_states.specs.declared.told.Telling.{Telling}
use Rattle.lrc_states.specs.declared.told.Telling.TheVariants.{AlsoInMembers}
use Rattle.lrc_step.specs.Lines.{document, run_lines}
use Rattle.lrc_step.specs.EndLines.{TellsEnds}
use Rattle.lrc_step.specs.RaceLines.{TellsRaces}
use Rattle.lrc_step.specs.declared.shown.Part as races
use Rattle.lrc_step.specs.ReasonLines.{TellsWhys}
use Rattle.lrc_cli_answer.specs.declared.fault.Fault.{Fault}
use Rattle.lrc_cli_answer.specs.declared.fault.Fault.TheVariants.{NoMemory, TooManyTurns}
use Rattle.lrc_cli_runs.specs.Explained.{IsExplained}
use Rattle.lrc_cli_runs.specs.Lines.{AreLinesIn}
use Rattle.lrc_cli_runs.specs.Runs.{options_of}

-- the run of which the turns are shown
abbrev pub told_of : ReadText → Program → RunOptions → Run → Told
told_of text program options run =
    record { text = text; program = program; nodes = options.nodes.count; options = options_of options; events = run.events.items }

-- which of them are shown
abbrev pub range_of : Part → Range
range_of part = record { from = part.from; to = part.to }

-- the turns of the part with the states of the nodes
abbrev pub IsStated : Telling → Part → ReadText → Program → RunOptions → Run → List ℕ → Type 0
IsStated telling part text program options run out = AreStates (told_of text program options run) (range_of part) telling out

-- the turns of the part are more than may be shown
abbrev pub HasTooManyTurns : Part → ReadText → Program → RunOptions → Run → Type 0
HasTooManyTurns part text program options run = IsUnshown (told_of text program options run) (range_of part) TooLong

-- why they are not shown
abbrev pub IsStatesFault : Part → ReadText → Program → RunOptions → Run → Fault → Type 0
IsStatesFault part text program options run TooManyTurns = HasTooManyTurns part text program options run
IsStatesFault part text program options run NoMemory = Unit {0}
IsStatesFault part text program options run _ = ⊥

-- they are more than may be shown in this form
abbrev pub IsFormTooLong : Form → ReadText → Program → RunOptions → Run → Type 0
IsFormTooLong (States part) text program options run = HasTooManyTurns part text program options run
IsFormTooLong _ text program options run = ⊥

-- ---- the document

-- the name of a file: its path behind the last stroke
abbrev pub name_with : List ℕ → ℕ → List ℕ
name_with name byte = if byte == 47 then [] else name ++ byte ∷ []

abbrev pub name_of : List ℕ → List ℕ
name_of path = fold name_with [] path

-- the first of the acts that are shown, of so many, and the one behind the last
abbrev pub first_shown : Option ℕ → (count : ℕ) → ℕ
first_shown None count = 0
first_shown (Some position) count = min position count

abbrev pub end_shown : Option ℕ → (count : ℕ) → ℕ
end_shown None count = count
end_shown (Some position) count = min (position + 1) count

abbrev pub acts_shown : Part → (count : ℕ) → races.Part
acts_shown part count = record { from = first_shown part.from count; until = end_shown part.to count }

-- The document that shows the turns of a part of the run, under the name of the program's file: the states, told also in members; the run with
-- reasons and how its nodes ended; its races; and why the acts of the part are as they are.
pub record IsStepped (name : List ℕ) (part : Part) (text : ReadText) (program : Program) (options : RunOptions) (run : Run) (out : List ℕ) : Type 0 where
  pub states : List ℕ
  pub are_states : IsStated AlsoInMembers part text program options run states
  pub explained : List ℕ
  pub is_explained : IsExplained text program options run.report.acts.items run.report.first_race explained
  pub ends : List ℕ
  pub tells_ends : TellsEnds text program options.nodes.count options.steps.count run.report.acts.items explained ends
  pub lines : List ℕ
  pub are_lines : AreLinesIn text program options.nodes.count run.report.acts.items lines
  pub races : List ℕ
  pub tells_races : TellsRaces run.report.acts.items lines (acts_shown part (length run.report.acts.items)) races
  pub reasons : List ℕ
  pub tells_whys : TellsWhys text program options.nodes.count options.size run.report.acts.items (acts_shown part (length run.report.acts.items)) reasons
  pub whole : out ≡ document (run_lines name (shown_text text) states ends races reasons)
