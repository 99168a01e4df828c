-- The steps between the states that a search has found.
use Rattle.std.specs.Prelude.{◌≡◌, ℕ, ◌<◌, ◌≤◌, List}
use Rattle.lrc_trace.specs.declared.act.Act.{Act}
use Rattle.lrc_exec.specs.States.{plain_at}
use Rattle.lrc_graph.specs.Graph.{HasEdge, place_count}
use Rattle.lrc_orders.specs.declared.noted.Noted.{Noted}
use Rattle.lrc_orders_settling.specs.declared.step.Step.{Step}
use Rattle.lrc_orders_live.specs.Like.{TakesLike}
use Rattle.lrc_orders_table.specs.declared.rows.Rows.{Rows}
use Rattle.lrc_orders_table.specs.Rows.{IsRowAt, row_count}
use Rattle.lrc_explore.specs.declared.task.Task.{Task}
use Rattle.lrc_explore.specs.Reached.{AreFound, CannotTake, IsMore}
use Rattle.lrc_explore_ends.specs.declared.states.States.{States}

-- a step leads from the state at one place to that at another
pub record StepsTo (task : Task) (all : Rows) (from : ℕ) (step : Step) (to : ℕ) : Type 0 where
  pub before : Noted
  pub there : IsRowAt all from before
  pub after : Noted
  pub next : IsRowAt all to after
  pub acts : List Act
  pub takes : TakesLike (plain_at task.flat before.state) step acts (plain_at task.flat after.state)

-- the edges lead from a state to one to which a step leads from it
pub record AreStepped (task : Task) (states : States) : Type 0 where
  pub found : AreFound task states.found
  pub few : place_count states.steps ≤ row_count states.found.table.rows
  pub sound : (from to : ℕ) → HasEdge states.steps from to → (step : Step) × StepsTo task states.found.table.rows from step to

-- a step cannot be taken from the state at a place, or an edge leads where it leads
pub data IsStepKnown (task : Task) (states : States) (from : ℕ) (step : Step) : Type 0 where
  cannot : (key : Noted) → IsRowAt states.found.table.rows from key → CannotTake task key.state step → IsStepKnown task states from step
  leads : (to : ℕ) → StepsTo task states.found.table.rows from step to → HasEdge states.steps from to → IsStepKnown task states from step

-- what was found stays at its places, and the edges stay
pub record IsWider (old new : States) : Type 0 where
  pub more : IsMore old.found new.found
  pub edges : (from to : ℕ) → HasEdge old.steps from to → HasEdge new.steps from to

-- each step from each of the states is known, and the places of the graph are those of the states
pub record AreAllStepped (task : Task) (states : States) : Type 0 where
  pub stepped : AreStepped task states
  pub even : place_count states.steps ≡ row_count states.found.table.rows
  pub known : (from : ℕ) → from < row_count states.found.table.rows → (step : Step) → IsStepKnown task states from step
