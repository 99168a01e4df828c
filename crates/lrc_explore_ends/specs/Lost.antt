-- States from which no steps lead to an end.
use Rattle.std.specs.Prelude.{◌≡◌, ◌↔◌, ℕ, ◌<◌, true, false, List, Bool, Option, Some, None, slice_index_or}
use Rattle.lrc_exec.specs.States.{plain_at}
use Rattle.lrc_graph.specs.Graph.{LeadsTo}
use Rattle.lrc_orders.specs.declared.noted.Noted.{Noted}
use Rattle.lrc_orders.specs.Stuck.{IsAtRest}
use Rattle.lrc_orders_table.specs.Rows.{IsRowAt, row_count}
use Rattle.lrc_explore.specs.declared.task.Task.{Task}
use Rattle.lrc_explore_ends.specs.declared.states.States.{States}

-- steps lead from the state at a place to one at which no node can make an act
pub record HasEnd (task : Task) (states : States) (place : ℕ) : Type 0 where
  pub to : ℕ
  pub leads : LeadsTo states.steps place to
  pub key : Noted
  pub there : IsRowAt states.found.table.rows to key
  pub still : IsAtRest (plain_at task.flat key.state)

-- so it is of all places before one
abbrev pub HaveEnds : Task → States → (index : ℕ) → Type 0
HaveEnds task states index = (place : ℕ) → place < index → HasEnd task states place

-- the first place at which it is not so, if there is one
abbrev pub IsFirstLost : Task → States → Option ℕ → Type 0
IsFirstLost task states None = HaveEnds task states (row_count states.found.table.rows)
IsFirstLost task states (Some place) = (place < row_count states.found.table.rows) × (¬ HasEnd task states place) × HaveEnds task states place

-- the table says at which of the states no node can make an act
abbrev pub SaysStill : Task → States → List Bool → Type 0
SaysStill task states table = (place : ℕ) (key : Noted) → IsRowAt states.found.table.rows place key
    → ((slice_index_or table place false ≡ true) ↔ IsAtRest (plain_at task.flat key.state))
