-- The way to a state that was found.
use Rattle.std.specs.Prelude.{◌≡◌, ℕ, ◌<◌, true, List, [], ◌∷◌, Some, slice_get}
use Rattle.lrc_trace.specs.declared.act.Act.{Act}
use Rattle.lrc_exec.specs.Plain.{Plain}
use Rattle.lrc_orders.specs.declared.noted.Noted.{Noted}
use Rattle.lrc_orders_table.specs.Rows.{IsRowAt}
use Rattle.lrc_orders.specs.Notes.{notes_of}
use Rattle.lrc_exec.specs.States.{plain_at}
use Rattle.lrc_orders_laws.specs.Steps.{IsSettledState}
use Rattle.lrc_explore.specs.declared.task.Task.{Task}
use Rattle.lrc_explore.specs.declared.task.Origin.{Origin}
use Rattle.lrc_orders_live.specs.Like.{AreLike}
use Rattle.lrc_explore.specs.declared.task.Found.{Found}

-- by the states at these places, each found from the one before it, a way goes from one place to another
pub data Comes (origins : List Origin) : (from : ℕ) (path : List ℕ) (to : ℕ) → Type 0 where
  here : (from to : ℕ) → from ≡ to → Comes origins from [] to
  on : (from next to : ℕ) (path : List ℕ) (origin : Origin) → 0 < next → slice_get origins next ≡ Some origin → origin.parent ≡ from
      → Comes origins next path to → Comes origins from (next ∷ path) to

-- the acts lead from the beginning to a settled state that stands behind what is kept at a place, and have its notes if notes are kept
pub record LeadTo (task : Task) (found : Found) (place : ℕ) (acts : List Act) : Type 0 where
  pub machine : Plain
  pub led : IsSettledState task.program.now task.flat.nodes acts machine
  pub key : Noted
  pub there : IsRowAt found.table.rows place key
  pub alike : AreLike machine (plain_at task.flat key.state)
  pub noted : task.noting ≡ true → notes_of task.flat.nodes acts ≡ key.notes.items

-- they lead to the state from which that at a place was found
abbrev pub IsParentLed : Task → Found → (place : ℕ) → List Act → Type 0
IsParentLed task found place acts = (origin : Origin) → slice_get found.origins.items place ≡ Some origin → LeadTo task found origin.parent acts
