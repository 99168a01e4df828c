-- Runs that have an outcome.
use Rattle.std.specs.Prelude.{◌≡◌, ◌↔◌, ℕ, ◌<◌, Option, Some, None, List}
use Rattle.lrc_program.specs.declared.Program.{Program}
use Rattle.lrc_trace.specs.declared.act.Act.{Act}
use Rattle.lrc_exec.specs.Plain.{Plain, plain_from, plain_start}
use Rattle.lrc_exec.specs.Follows.{nodes_of_acts}
use Rattle.lrc_orders.specs.declared.noted.Noted.{Noted}
use Rattle.lrc_orders_table.specs.Rows.{IsRowAt, row_count}
use Rattle.lrc_orders.specs.Notes.{notes_of}
use Rattle.lrc_orders.specs.Outcome.{HasOutcome, IsOutcome}
use Rattle.lrc_exec.specs.States.{plain_at}
use Rattle.lrc_orders.specs.Stuck.{IsAtRest}
use Rattle.lrc_explore.specs.declared.task.Task.{Task}
use Rattle.lrc_explore.specs.declared.task.Found.{Found}
use Rattle.lrc_explore.specs.declared.ended.Ended.{Ended}
use Rattle.lrc_explore.specs.Reached.{AreExpanded, AreFound, HasStart}

-- the acts are a run of the program after which no node can make an act, and it has these notes
pub record IsRunWith (program : Program) (nodes : ℕ) (notes acts : List Act) : Type 0 where
  pub machine : Plain
  pub led : plain_from (plain_start program nodes) (nodes_of_acts acts) ≡ Some (acts, machine)
  pub still : IsAtRest machine
  pub are : notes_of nodes acts ≡ notes

-- where there is one, it is such a run; and there is one for each outcome
abbrev pub IsRunFor : Program → (nodes : ℕ) → (notes : List Act) → Option (List Act) → Type 0
IsRunFor program nodes notes (Some acts) = IsRunWith program nodes notes acts
IsRunFor program nodes notes None = ¬ IsOutcome program nodes notes

-- all settled states of the program were found
pub record AreAllFound (task : Task) (found : Found) : Type 0 where
  pub are : AreFound task found
  pub start : HasStart task found.table.rows
  pub expanded : AreExpanded task found.table.rows (row_count found.table.rows)

-- and these are exactly its outcomes
pub record AreEnded (task : Task) (ended : Ended) : Type 0 where
  pub all : AreAllFound task ended.found
  pub exact : (notes : List Act) → HasOutcome ended.outcomes.keys notes ↔ IsOutcome task.program.now task.flat.nodes notes

-- at the state at a place no node can make an act, and it has these notes
pub record IsEndAt (task : Task) (found : Found) (notes : List Act) (place : ℕ) : Type 0 where
  pub key : Noted
  pub there : IsRowAt found.table.rows place key
  pub still : IsAtRest (plain_at task.flat key.state)
  pub are : key.notes.items ≡ notes

-- so it is at none of the places before this one
abbrev pub HasNoEndBefore : Task → Found → (notes : List Act) → (place : ℕ) → Type 0
HasNoEndBefore task found notes place = (k : ℕ) → k < place → ¬ IsEndAt task found notes k

-- so it is at this place first, or at none
abbrev pub IsFirstEnd : Task → Found → (notes : List Act) → Option ℕ → Type 0
IsFirstEnd task found notes (Some place) = IsEndAt task found notes place × HasNoEndBefore task found notes place
IsFirstEnd task found notes None = HasNoEndBefore task found notes (row_count found.table.rows)
