-- The lines of reasons.
use Rattle.std.specs.Prelude.{◌≡◌, ℕ, List, [], None, Option, Some, slice_get, slice_index_or}
use Rattle.lrc_program.specs.declared.Program.{Program}
use Rattle.lrc_trace.specs.declared.act.Act.{Act}
use Rattle.lrc_page.specs.declared.size.Size.{Size}
use Rattle.lrc_why_chains.specs.Writes.{AreExactly}
use Rattle.lrc_text.specs.Each.{each}
use Rattle.lrc_why_text.specs.declared.asked.Asked.{Asked}
use Rattle.lrc_source.specs.Telling.{ReadText}
use Rattle.lrc_lines.specs.Walks.{act_lines}
use Rattle.lrc_source.specs.Telling.{AreLines}
use Rattle.lrc_why_run.specs.Answers.{AnswersRun}
use Rattle.lrc_step.specs.Lines.{lines_in, why_line}
use Rattle.lrc_step.specs.declared.given.Given.{Given}
use Rattle.lrc_step.specs.Given.{IsGivenIfRead}
use Rattle.lrc_step.specs.declared.rivals.Rival.{Rival}
use Rattle.lrc_step.specs.declared.shown.Part.{Part}
use Rattle.lrc_step.specs.Rivals.{AreRivals}
use Rattle.lrc_step.specs.Told.{IsTold}

-- one act is asked of
abbrev pub asked_alone : ℕ → Asked
asked_alone position = record { act = position; and = None }

-- for each position a line with what is printed of its act, its rivals, and the writes that a read gives what it gives by
abbrev pub whys_text : (positions : List ℕ) → (printed : List (List ℕ)) → (rivals : List (List (Option Rival))) → List (Option Given) → List ℕ
whys_text positions printed rivals given =
    each (λ place position. why_line position (lines_in (slice_index_or printed place [])) (slice_index_or rivals place [])
    (slice_index_or given place None)) positions

-- The text has a line for each act of which it is told why it is as it is, ascending, with the lines that `why` prints of it, the acts that
-- race with it, and, of a read, the writes that it gives what it gives by.
pub record TellsWhys (text : ReadText) (program : Program) (nodes : ℕ) (page : Size) (acts : List Act) (part : Part) (told : List ℕ) : Type 0 where
  pub positions : List ℕ
  pub are_told : AreExactly (IsTold acts part) positions
  pub printed : List (List ℕ)
  pub answers : (place position : ℕ) → slice_get positions place ≡ Some position
      → AnswersRun text program nodes page acts (asked_alone position) (slice_index_or printed place [])
  pub lines : List ℕ
  pub are_lines : AreLines text program lines
  pub rivals : List (List (Option Rival))
  pub are_rivals : (place position : ℕ) → slice_get positions place ≡ Some position
      → AreRivals acts (act_lines program nodes lines acts) nodes position (slice_index_or rivals place [])
  pub given : List (Option Given)
  pub are_given : (place position : ℕ) → slice_get positions place ≡ Some position → IsGivenIfRead acts position (slice_index_or given place None)
  pub whole : told ≡ whys_text positions printed rivals given
