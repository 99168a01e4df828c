-- A search that is cut short, and steps in which some node computes too long.
use Rattle.std.specs.Prelude.{◌≡◌, ℕ, ◌<◌, Bool, false, List, Option, Some, length, slice_get}
use Rattle.lrc_exec.specs.States.{plain_at}
use Rattle.lrc_orders.specs.declared.noted.Noted.{Noted}
use Rattle.lrc_orders_settling.specs.declared.step.Step.{Step}
use Rattle.lrc_orders_settling.specs.Taking.{ComputesLong}
use Rattle.lrc_orders_table.specs.declared.rows.Rows.{Rows}
use Rattle.lrc_orders_table.specs.Rows.{row_count}
use Rattle.lrc_orders_table.specs.Tables.{KeepsRows}
use Rattle.lrc_explore.specs.declared.task.Found.{Found}
use Rattle.lrc_explore.specs.declared.task.Stepped.{Stepped}
use Rattle.lrc_explore.specs.declared.task.Stepped.TheVariants as stepped
use Rattle.lrc_explore.specs.declared.task.Steps.{Steps}
use Rattle.lrc_explore.specs.declared.task.Steps.TheVariants as steps
use Rattle.lrc_explore.specs.declared.task.Task.{Task}
use Rattle.lrc_explore.specs.Answers.{IsLongAt}
use Rattle.lrc_explore.specs.Reached.{AreFound, HasAfterAt, IsExpandedAt, IsMore}
use Rattle.lrc_explore.specs.Traps.{IsStepTrapAt, IsTrapStepAt, ShowsTrapAt}

-- why a search that has found these states is cut short: they are more than may be, or some node computes too long from
-- one of them
pub data IsCut (task : Task) (all : Rows) : Type 0 where
  are_more : task.most < row_count all → IsCut task all
  is_longer : (place : ℕ) → IsLongAt task all place → IsCut task all

pub data IsCutAmong (task : Task) (most : ℕ) (keys : List Noted) : Type 0 where
  more_among : most < length keys → IsCutAmong task most keys
  longer_among : (k : ℕ) (key : Noted) → slice_get keys k ≡ Some key
      → ComputesLong (plain_at task.flat key.state) task.looked → IsCutAmong task most keys

-- from the state at a place some node computes too long, and what was found stays, with no state more
pub record StaysLong (task : Task) (old new : Found) (place : ℕ) : Type 0 where
  pub long : IsLongAt task new.table.rows place
  pub found : AreFound task new
  pub more : IsMore old new
  pub keeps : KeepsRows old.table new.table

-- What came of a step from the state at a place: the states have what it leads to, and it is said whether a node traps
-- in it; or some node computes too long.
abbrev pub IsStepped : Task → Rows → (place : ℕ) → Step → Stepped → Type 0
IsStepped task all place step (stepped.Past traps) =
    HasAfterAt task all place step × ShowsTrapAt task all place step traps
IsStepped task all place step stepped.Long = IsLongAt task all place

-- whether a node traps in it
abbrev pub traps_in : Stepped → Bool
traps_in (stepped.Past traps) = traps
traps_in stepped.Long = false

-- What came of the steps from the state at a place: the states have what each leads to, and it is said in which a node
-- traps first; or some node computes too long in one, and a node traps in the step that is named, if one is.
abbrev pub AreSteps : Task → Rows → (place : ℕ) → Steps → Type 0
AreSteps task all place (steps.All trap) = IsExpandedAt task all place × IsStepTrapAt task all place trap
AreSteps task all place (steps.Cut trap) = IsLongAt task all place × IsTrapStepAt task all place trap

-- the step that is named
abbrev pub trap_among : Steps → Option Step
trap_among (steps.All trap) = trap
trap_among (steps.Cut trap) = trap
