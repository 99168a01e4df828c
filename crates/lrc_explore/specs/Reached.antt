-- States that a search through the settled states has found.
use Rattle.std.specs.Prelude.{◌≡◌, ℕ, ◌<◌, ◌≤◌, All, true, false, List, [], ◌++◌, Some, length, slice_get}
use Rattle.lrc_trace.specs.declared.act.Act.{Act}
use Rattle.lrc_exec.specs.Plain.{Plain, plain_start}
use Rattle.lrc_exec.specs.Spots.{IsFlat}
use Rattle.lrc_orders.specs.declared.noted.Noted.{Noted}
use Rattle.lrc_orders_table.specs.declared.rows.Row.{Row}
use Rattle.lrc_orders_table.specs.declared.rows.Rows.{Rows}
use Rattle.lrc_orders_table.specs.Rows.{AreRowsDistinct, AreRowsFull, IsRowAt, StandsFor, WidensRows, row_count}
use Rattle.lrc_exec.specs.declared.state.State.{State}
use Rattle.lrc_orders.specs.Notes.{notes_of}
use Rattle.lrc_orders.specs.Kept.{Grows}
use Rattle.lrc_orders.specs.Meeting.{IsCalm}
use Rattle.lrc_exec.specs.States.{machine_begun, plain_at, IsStateOf}
use Rattle.lrc_orders.specs.Stuck.{IsStuck}
use Rattle.lrc_orders_laws.specs.Settling.{Settles}
use Rattle.lrc_orders_laws.specs.Steps.{IsSettledState}
use Rattle.lrc_orders_settling.specs.declared.step.Step.{Step}
use Rattle.lrc_orders_settling.specs.declared.step.Step.TheVariants.{Alone, Together}
use Rattle.lrc_orders_settling.specs.Gone.{SettlesTo}
use Rattle.lrc_orders_settling.specs.Taking.{IsCounted, Takes, TakesTo}
use Rattle.lrc_explore.specs.declared.task.Task.{Task}
use Rattle.lrc_explore.specs.declared.task.Origin.{Origin}
use Rattle.lrc_orders_table.specs.Nexts.{notes_on}
use Rattle.lrc_orders_table.specs.declared.known.Means.{Means}
use Rattle.lrc_orders_table.specs.declared.table.Table.{Table}
use Rattle.lrc_orders_table.specs.Tables.{IsTable}
use Rattle.lrc_orders_live.specs.Like.{AreLike, TakesLike}
use Rattle.lrc_orders_live.specs.Live.{AreLive, forgot}
use Rattle.lrc_explore.specs.declared.task.Found.{Found}

-- the code is the program's, and of each place of it the names are known that matter there
pub record IsTask (task : Task) : Type 0 where
  pub flat : IsFlat task.flat
  pub placed : task.start ≤ length task.flat.code.now
  pub begun : machine_begun task.flat task.start ≡ plain_start task.program.now task.flat.nodes
  pub live : AreLive task.flat.code.now task.live.items

-- steps from rows are taken by what the task says
pub record IsMeansOf (task : Task) (means : Means) : Type 0 where
  pub flat : means.flat ≡ task.flat
  pub live : means.live.now ≡ task.live.items
  pub looked : means.looked ≡ task.looked
  pub noting : means.noting ≡ task.noting

-- what is known of the threads of rows is so
abbrev pub IsTableOf : Task → Table → Type 0
IsTableOf task table = (means : Means) → IsMeansOf task means → IsTable means table

-- if one node takes the step, it is one of the program's nodes
abbrev pub IsStepOf : Task → Step → Type 0
IsStepOf task (Alone node) = node < task.flat.nodes
IsStepOf task Together = Unit {0}

-- a settled state of the program stands behind what is kept: the same but for how often nodes have arrived and for private values that
-- nothing depends on any more; and if notes are kept the notes of the acts that lead there, and else none
pub record IsReached (task : Task) (key : Noted) : Type 0 where
  pub valid : IsStateOf task.flat key.state
  pub counted : IsCounted key.state
  pub acts : List Act
  pub machine : Plain
  pub led : IsSettledState task.program.now task.flat.nodes acts machine
  pub alike : AreLike machine (plain_at task.flat key.state)
  pub noted : task.noting ≡ true → notes_of task.flat.nodes acts ≡ key.notes.items
  pub bare : task.noting ≡ false → key.notes.items ≡ []

-- so it is of all, and each stands once
pub record AreReached (task : Task) (all : Rows) : Type 0 where
  pub full : AreRowsFull all
  pub nodes : all.nodes ≡ task.flat.nodes
  pub distinct : AreRowsDistinct all
  pub each : (k : ℕ) (key : Noted) → IsRowAt all k key → IsReached task key

-- one of the states stands for this one, with these notes if notes are kept
pub record HasReached (task : Task) (all : Rows) (machine : Plain) (notes : List Act) : Type 0 where
  pub place : ℕ
  pub key : Noted
  pub there : IsRowAt all place key
  pub alike : AreLike machine (plain_at task.flat key.state)
  pub noted : task.noting ≡ true → key.notes.items ≡ notes

-- the states have what this step leads to from one of them
abbrev pub HasAfter : Task → Rows → Noted → Step → Type 0
HasAfter task all key step = (acts : List Act) (after : Plain) → Takes (plain_at task.flat key.state) step acts after
    → HasReached task all after (notes_on key.notes.items acts)

-- so it is of the state at a place
abbrev pub HasAfterAt : Task → Rows → (place : ℕ) → Step → Type 0
HasAfterAt task all place step = (key : Noted) → IsRowAt all place key → HasAfter task all key step

-- they have what every step leads to from it
abbrev pub IsExpanded : Task → Rows → Noted → Type 0
IsExpanded task all key = (step : Step) → HasAfter task all key step

-- they have it from that at a place, and from those before an index
abbrev pub IsExpandedAt : Task → Rows → (place : ℕ) → Type 0
IsExpandedAt task all place = (key : Noted) → IsRowAt all place key → IsExpanded task all key

abbrev pub AreExpanded : Task → Rows → (index : ℕ) → Type 0
AreExpanded task all index = (k : ℕ) → k < index → IsExpandedAt task all k

-- they have the settled start of the program
abbrev pub HasStart : Task → Rows → Type 0
HasStart task all = (acts : List Act) (machine : Plain) → Settles (plain_start task.program.now task.flat.nodes) acts machine
    → HasReached task all machine (notes_of task.flat.nodes acts)

-- a step leads from an earlier state to this one, and its acts to these notes if notes are kept
pub record IsFrom (task : Task) (all : Rows) (origin : Origin) (key : Noted) : Type 0 where
  pub before : Noted
  pub there : IsRowAt all origin.parent before
  pub acts : List Act
  pub takes : TakesLike (plain_at task.flat before.state) origin.step acts (plain_at task.flat key.state)
  pub noted : task.noting ≡ true → key.notes.items ≡ notes_on before.notes.items acts

-- how the state at this place was found
pub record IsFound (task : Task) (found : Found) (place : ℕ) (key : Noted) : Type 0 where
  pub origin : Origin
  pub there : slice_get found.origins.items place ≡ Some origin
  pub earlier : origin.parent < place
  pub from : IsFrom task found.table.rows origin key

-- the first state is where the program's start settles, with the notes of the acts by which it does if notes are kept
abbrev pub IsFirstKey : Task → Noted → Type 0
IsFirstKey task key = (acts : List Act) × (machine : Plain) × Settles (plain_start task.program.now task.flat.nodes) acts machine
    × AreLike machine (plain_at task.flat key.state) × (task.noting ≡ true → key.notes.items ≡ notes_of task.flat.nodes acts)

-- all that was found stands for settled states, what is known of their threads is so, and of each state but the first it is known from
-- where it was found
pub record AreFound (task : Task) (found : Found) : Type 0 where
  pub reached : AreReached task found.table.rows
  pub table : IsTableOf task found.table
  pub even : length found.origins.items ≡ row_count found.table.rows
  pub from : (k : ℕ) (key : Noted) → 0 < k → IsRowAt found.table.rows k key → IsFound task found k key
  pub first : (key : Noted) → IsRowAt found.table.rows 0 key → IsFirstKey task key

-- what was found stays at its places, and there may be more
pub record IsMore (old new : Found) : Type 0 where
  pub rows : WidensRows old.table.rows new.table.rows
  pub origins : Grows old.origins.items new.origins.items

-- a step makes these acts, put to those before, and leads from this state to that one
pub record HasTakenTo (task : Task) (state : State) (step : Step) (before after : List Act) (new : State) : Type 0 where
  pub valid : IsStateOf task.flat new
  pub acts : List Act
  pub takes : TakesTo (plain_at task.flat state) step acts (plain_at task.flat new)
  pub made : after ≡ before ++ acts

-- no step does
abbrev pub CannotTake : Task → State → Step → Type 0
CannotTake task state step = (acts : List Act) (after : Plain) → ¬ Takes (plain_at task.flat state) step acts after

-- no step does from the state at a place
abbrev pub CannotTakeAt : Task → Rows → (place : ℕ) → Step → Type 0
CannotTakeAt task all place step = (key : Noted) → IsRowAt all place key → CannotTake task key.state step

-- the row stands for a settled state to which a step leads from one of these
pub record IsNext (task : Task) (all : Rows) (origin : Origin) (row : Row) : Type 0 where
  pub key : Noted
  pub stands : StandsFor all row key
  pub reached : IsReached task key
  pub from : IsFrom task all origin key

-- so it is of this step from the state at a place
abbrev pub LeadsTo : Task → Rows → (place : ℕ) → Step → Row → Type 0
LeadsTo task all place step = IsNext task all (record { parent = place; step = step })

-- the key stands for a state, keeps no value that is dead, and has the notes of these acts if notes are kept
pub record IsKeyOf (task : Task) (state : State) (acts : List Act) (key : Noted) : Type 0 where
  pub valid : IsStateOf task.flat key.state
  pub counted : IsCounted key.state
  pub alike : AreLike (plain_at task.flat key.state) (plain_at task.flat state)
  pub bare_spots : All (λ spot. forgot task.live.items spot ≡ spot) key.state.spots.items
  pub noted : task.noting ≡ true → key.notes.items ≡ notes_of task.flat.nodes acts
  pub bare : task.noting ≡ false → key.notes.items ≡ []

-- some place keeps it
abbrev pub IsKept : Rows → Noted → Type 0
IsKept all key = (place : ℕ) × IsRowAt all place key

-- the program's start settles to this state: the acts were put to those before
pub record SettlesStart (task : Task) (before after : List Act) (state : State) : Type 0 where
  pub acts : List Act
  pub settles : SettlesTo (plain_start task.program.now task.flat.nodes) acts (plain_at task.flat state)
  pub made : after ≡ before ++ acts

-- from where it was found, if it is not the first
abbrev pub ComesFrom : Task → Found → Origin → Noted → Type 0
ComesFrom task found origin key = (0 < row_count found.table.rows → (origin.parent < row_count found.table.rows) × IsFrom task found.table.rows origin key)
    × (row_count found.table.rows ≡ 0 → IsFirstKey task key)

-- no two nodes meet at the states before an index, and the program is stuck at none of them
abbrev pub AreCalm : Task → Rows → (index : ℕ) → Type 0
AreCalm task all index = (k : ℕ) (key : Noted) → k < index → IsRowAt all k key → IsCalm (plain_at task.flat key.state)

abbrev pub AreNowhereStuck : Task → Rows → (index : ℕ) → Type 0
AreNowhereStuck task all index = (k : ℕ) (key : Noted) → k < index → IsRowAt all k key → ¬ IsStuck (plain_at task.flat key.state)
