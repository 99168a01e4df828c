-- A run that has one of the outcomes of a program, as it is printed.
use Rattle.std.specs.Prelude.{◌≡◌, ◌≢◌, ℕ, ◌-◌, ◌<◌, List, Option, Some, None, length, slice_get}
use Rattle.lrc_program.specs.declared.Program.{Program}
use Rattle.lrc_trace.specs.declared.act.Act.{Act}
use Rattle.lrc_orders.specs.declared.outcomes.Outcome.{Outcome}
use Rattle.lrc_explore.specs.declared.task.Task.{Task}
use Rattle.lrc_explore.specs.Ended.{IsRunWith}
use Rattle.lrc_explore_less.specs.declared.ended.Ended.{Ended}
use Rattle.lrc_explore_text.specs.Orders.{order_text}
use Rattle.lrc_explore_text.specs.Outcomes.{AreLinesOf, AreOutcomesOf, outcome_line}

-- The acts are a run of the program after which no node can make an act. Of the lines of the program's outcomes, ascending, that of this
-- number, counted from 1, is the line of its notes.
pub record IsNumberedRun (program : Program) (nodes number : ℕ) (acts : List Act) : Type 0 where
  pub outcomes : List Outcome
  pub are : AreOutcomesOf program nodes outcomes
  pub lines : List (List ℕ)
  pub list : AreLinesOf nodes outcomes lines
  pub notes : List Act
  pub there : slice_get lines (number - 1) ≡ Some (outcome_line nodes notes)
  pub run : IsRunWith program nodes notes acts

-- the program has fewer outcomes than this
pub record HasFewerOutcomes (program : Program) (nodes number : ℕ) : Type 0 where
  pub outcomes : List Outcome
  pub are : AreOutcomesOf program nodes outcomes
  pub few : length outcomes < number

-- such a run, where there are as many outcomes
abbrev pub IsRunOfNumber : Program → (nodes number : ℕ) → Option (List Act) → Type 0
IsRunOfNumber program nodes number (Some acts) = IsNumberedRun program nodes number acts
IsRunOfNumber program nodes number None = HasFewerOutcomes program nodes number

-- the text has a line for each act of such a run
pub record TellsNumberedRun (program : Program) (nodes : ℕ) (lines : List ℕ) (number : ℕ) (out : List ℕ) : Type 0 where
  pub acts : List Act
  pub is : IsNumberedRun program nodes number acts
  pub whole : out ≡ order_text program nodes lines acts

-- such a text, where there are as many outcomes
abbrev pub TellsRunOfNumber : Program → (nodes : ℕ) → (lines : List ℕ) → (number : ℕ) → Option (List ℕ) → Type 0
TellsRunOfNumber program nodes lines number (Some out) = TellsNumberedRun program nodes lines number out
TellsRunOfNumber program nodes lines number None = HasFewerOutcomes program nodes number

-- the acts are such a run that has the outcome at a place
abbrev pub IsRunAt : Task → Ended → (place : ℕ) → List Act → Type 0
IsRunAt task ended place acts =
    (outcome : Outcome) → slice_get ended.outcomes.keys place ≡ Some outcome → IsRunWith task.program.now task.flat.nodes outcome.notes.items acts

-- the outcome at a place has this line
pub record IsLineAt (nodes : ℕ) (outcomes : List Outcome) (line : List ℕ) (place : ℕ) : Type 0 where
  pub outcome : Outcome
  pub there : slice_get outcomes place ≡ Some outcome
  pub is : outcome_line nodes outcome.notes.items ≡ line

-- none of the outcomes before a place has
abbrev pub HasNoLineBefore : (nodes : ℕ) → List Outcome → (line : List ℕ) → (place : ℕ) → Type 0
HasNoLineBefore nodes outcomes line place =
    (k : ℕ) (outcome : Outcome) → k < place → slice_get outcomes k ≡ Some outcome → outcome_line nodes outcome.notes.items ≢ line

-- the outcome at a place has the line of this number
pub record IsNumberedAt (nodes : ℕ) (outcomes : List Outcome) (number place : ℕ) : Type 0 where
  pub lines : List (List ℕ)
  pub list : AreLinesOf nodes outcomes lines
  pub line : List ℕ
  pub there : slice_get lines (number - 1) ≡ Some line
  pub at : IsLineAt nodes outcomes line place

-- so it is at this place, or there are fewer
abbrev pub IsPlaceOfNumber : (nodes : ℕ) → List Outcome → (number : ℕ) → Option ℕ → Type 0
IsPlaceOfNumber nodes outcomes number (Some place) = IsNumberedAt nodes outcomes number place
IsPlaceOfNumber nodes outcomes number None = length outcomes < number
