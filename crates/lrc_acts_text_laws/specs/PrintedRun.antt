-- What is printed of the acts of a run of a program.
use Rattle.std.specs.Prelude.{◌≡◌, ◌≤◌, ℕ, List, Some}
use Rattle.lrc_program.specs.declared.Program.{Program}
use Rattle.lrc_lang.specs.Faults.{IsText}
use Rattle.lrc_lang.specs.Lines.{HasLines}
use Rattle.lrc_program.specs.Tree.{program_of}
use Rattle.lrc_trace.specs.declared.act.Act.{Act}
use Rattle.lrc_lines.specs.Walks.{act_lines}
use Rattle.lrc_protocol.specs.declared.event.Event.{Event}
use Rattle.lrc_protocol.specs.Node.{OptionsRecord}
use Rattle.lrc_protocol.specs.Run.{World, run_of}
use Rattle.lrc_acts_text.specs.ActsText.{acts_text}

-- These acts are those of a run on at most 16 nodes of the program that some text is of, whatever its events, and this is printed of
-- them: each act with the line of that text that it is of. This is what `trace` prints (`IsTraceShown` of the crate `lrc_cli_runs`).
pub record IsPrintedRun (nodes : ℕ) (acts : List Act) (printed : List ℕ) : Type 0 where
  pub few : nodes ≤ 16
  pub text : List ℕ
  pub program : Program
  pub is_text : IsText text (program_of program)
  pub options : OptionsRecord
  pub events : List Event
  pub world : World
  pub runs : run_of program nodes options events ≡ Some world
  pub are_acts : acts ≡ world.acts
  pub places : List ℕ
  pub are_places : HasLines text (program_of program) places
  pub is_printed : printed ≡ acts_text acts (act_lines program nodes places acts)
