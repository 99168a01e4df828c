-- A run of a program that some text is of.
use Rattle.std.specs.Prelude.{◌≡◌, ◌≤◌, ℕ, List, Some}
use Rattle.lrc_program.specs.declared.Program.{Program}
use Rattle.lrc_lang.specs.Faults.{IsText}
use Rattle.lrc_lang.specs.Lines.{HasLines}
use Rattle.lrc_program.specs.Tree.{program_of}
use Rattle.lrc_trace.specs.declared.act.Act.{Act}
use Rattle.lrc_lines.specs.Walks.{act_lines}
use Rattle.lrc_protocol.specs.declared.event.Event.{Event as Step}
use Rattle.lrc_protocol.specs.Node.{OptionsRecord}
use Rattle.lrc_protocol.specs.Run.{World, run_of}

-- These acts are those of a run of the program on at most 16 nodes, whatever its events, and each is of the line of the program's
-- text that stands at its place. Of these `trace` prints (`IsTraceShown` of the crate `lrc_cli_runs`).
pub record IsLinedRun (program : Program) (nodes : ℕ) (acts : List Act) (lines : List ℕ) : Type 0 where
  pub few : nodes ≤ 16
  pub text : List ℕ
  pub is_text : IsText text (program_of program)
  pub options : OptionsRecord
  pub steps : List Step
  pub world : World
  pub runs : run_of program nodes options steps ≡ Some world
  pub are_acts : acts ≡ world.acts
  pub places : List ℕ
  pub are_places : HasLines text (program_of program) places
  pub are_lines : lines ≡ act_lines program nodes places acts
