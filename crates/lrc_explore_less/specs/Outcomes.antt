-- Outcomes of states that are enough.
use Rattle.std.specs.Prelude.{◌≡◌, ◌↔◌, ℕ, ◌<◌, List, Some, slice_get}
use Rattle.lrc_trace.specs.declared.act.Act.{Act}
use Rattle.lrc_exec.specs.States.{plain_at}
use Rattle.lrc_orders.specs.declared.noted.Noted.{Noted}
use Rattle.lrc_orders.specs.declared.outcomes.Outcome.{Outcome}
use Rattle.lrc_orders.specs.Outcome.{HasOutcome, IsOutcome}
use Rattle.lrc_orders.specs.Stuck.{IsAtRest}
use Rattle.lrc_orders_table.specs.declared.rows.Rows.{Rows}
use Rattle.lrc_orders_table.specs.Rows.{IsRowAt}
use Rattle.lrc_explore.specs.declared.task.Task.{Task}
use Rattle.lrc_explore_less.specs.declared.less.Less.{Less}
use Rattle.lrc_explore_less.specs.declared.ended.Ended.{Ended}
use Rattle.lrc_explore_less.specs.Enough.{AreDone, AreEnough}

-- they have that of the state at a place, where no node can make an act
abbrev pub IsGatheredAt : Task → Rows → List Outcome → (place : ℕ) → Type 0
IsGatheredAt task all outcomes place =
    (key : Noted) → IsRowAt all place key → IsAtRest (plain_at task.flat key.state) → HasOutcome outcomes key.notes.items

-- so it is of the first ones that are open, and every step was taken from them
pub record AreGathered (task : Task) (less : Less) (outcomes : List Outcome) (index : ℕ) : Type 0 where
  pub done : AreDone task less index
  pub gathered : (k place : ℕ) → k < index → slice_get less.opens.items k ≡ Some place
      → IsGatheredAt task less.found.table.rows outcomes place

-- the states are enough, and these are exactly the outcomes
pub record AreEnded (task : Task) (ended : Ended) : Type 0 where
  pub enough : AreEnough task ended.less
  pub exact : (notes : List Act) → HasOutcome ended.outcomes.keys notes ↔ IsOutcome task.program.now task.flat.nodes notes
