-- A lazy run that has one of the outcomes of a program, as it is printed.
use Rattle.std.specs.Prelude.{◌≡◌, ◌-◌, ◌<◌, ℕ, List, Option, Some, None, length, slice_get}
use Rattle.lrc_program.specs.declared.Program.{Program}
use Rattle.lrc_trace.specs.declared.act.Act.{Act}
use Rattle.lrc_orders.specs.declared.outcomes.Outcome.{Outcome}
use Rattle.lrc_explore_text.specs.Orders.{order_text}
use Rattle.lrc_explore_text.specs.Outcomes.{AreLinesOf, outcome_line}
use Rattle.lrc_lazy_run.specs.Ended.{IsEndedLazyRun}
use Rattle.lrc_lazy_text.specs.Listed.{AreLazyOutcomes}

-- The acts are a lazy run of the program after which no node can act. Of the lines of the outcomes of its lazy runs, ascending, that of
-- this number, counted from 1, is the line of its notes.
pub record IsNumberedLazyRun (program : Program) (nodes number : ℕ) (acts : List Act) : Type 0 where
  pub outcomes : List Outcome
  pub are : AreLazyOutcomes program nodes outcomes
  pub lines : List (List ℕ)
  pub list : AreLinesOf nodes outcomes lines
  pub notes : List Act
  pub there : slice_get lines (number - 1) ≡ Some (outcome_line nodes notes)
  pub run : IsEndedLazyRun program nodes notes acts

-- the program's lazy runs have fewer outcomes than this
pub record HasFewerLazyOutcomes (program : Program) (nodes number : ℕ) : Type 0 where
  pub outcomes : List Outcome
  pub are : AreLazyOutcomes program nodes outcomes
  pub few : length outcomes < number

-- the text has a line for each act of such a run
pub record TellsNumberedLazyRun (program : Program) (nodes : ℕ) (lines : List ℕ) (number : ℕ) (out : List ℕ) : Type 0 where
  pub acts : List Act
  pub is : IsNumberedLazyRun program nodes number acts
  pub whole : out ≡ order_text program nodes lines acts

-- such a text, where there are as many outcomes
abbrev pub TellsLazyRunOfNumber : Program → (nodes : ℕ) → (lines : List ℕ) → (number : ℕ) → Option (List ℕ) → Type 0
TellsLazyRunOfNumber program nodes lines number (Some out) = TellsNumberedLazyRun program nodes lines number out
TellsLazyRunOfNumber program nodes lines number None = HasFewerLazyOutcomes program nodes number

-- the acts are a lazy run that has the outcome at a place
abbrev pub IsLazyRunAt : Program → (nodes : ℕ) → List Outcome → (place : ℕ) → List Act → Type 0
IsLazyRunAt program nodes outcomes place acts =
    (outcome : Outcome) → slice_get outcomes place ≡ Some outcome → IsEndedLazyRun program nodes outcome.notes.items acts
