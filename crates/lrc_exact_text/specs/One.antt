-- An exact run that has one of the outcomes of a program, as it is printed.
use Rattle.std.specs.Prelude.{◌≡◌, ◌-◌, ◌<◌, ℕ, List, Option, Some, None, length, slice_get}
use Rattle.lrc_program.specs.declared.Program.{Program}
use Rattle.lrc_trace.specs.declared.act.Act.{Act}
use Rattle.lrc_orders.specs.declared.outcomes.Outcome.{Outcome}
use Rattle.lrc_explore_text.specs.Orders.{order_text}
use Rattle.lrc_explore_text.specs.Outcomes.{AreLinesOf, outcome_line}
use Rattle.lrc_exact.specs.Rule.{Shape}
use Rattle.lrc_exact_search.specs.Searching.{IsEndedExactRun}
use Rattle.lrc_exact_text.specs.Listed.{AreExactOutcomes}

-- The acts are an exact run of the program after which no node can act. Of the lines of the outcomes of its exact runs, ascending, that of
-- this number, counted from 1, is the line of its notes.
pub record IsNumberedExactRun (program : Program) (shape : Shape) (number : ℕ) (acts : List Act) : Type 0 where
  pub outcomes : List Outcome
  pub are : AreExactOutcomes program shape outcomes
  pub lines : List (List ℕ)
  pub list : AreLinesOf shape.nodes outcomes lines
  pub notes : List Act
  pub there : slice_get lines (number - 1) ≡ Some (outcome_line shape.nodes notes)
  pub run : IsEndedExactRun program shape notes acts

-- the program's exact runs have fewer outcomes than this
pub record HasFewerExactOutcomes (program : Program) (shape : Shape) (number : ℕ) : Type 0 where
  pub outcomes : List Outcome
  pub are : AreExactOutcomes program shape outcomes
  pub few : length outcomes < number

-- such a run, where there are as many outcomes
abbrev pub IsExactRunOfNumber : Program → Shape → (number : ℕ) → Option (List Act) → Type 0
IsExactRunOfNumber program shape number (Some acts) = IsNumberedExactRun program shape number acts
IsExactRunOfNumber program shape number None = HasFewerExactOutcomes program shape number

-- the text has a line for each act of such a run
pub record TellsNumberedExactRun (program : Program) (shape : Shape) (lines : List ℕ) (number : ℕ) (out : List ℕ) : Type 0 where
  pub acts : List Act
  pub is : IsNumberedExactRun program shape number acts
  pub whole : out ≡ order_text program shape.nodes lines acts

-- such a text, where there are as many outcomes
abbrev pub TellsExactRunOfNumber : Program → Shape → (lines : List ℕ) → (number : ℕ) → Option (List ℕ) → Type 0
TellsExactRunOfNumber program shape lines number (Some out) = TellsNumberedExactRun program shape lines number out
TellsExactRunOfNumber program shape lines number None = HasFewerExactOutcomes program shape number
