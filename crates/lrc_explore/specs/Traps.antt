-- Where nodes trap, of what a search has found.
use Rattle.std.specs.Prelude.{◌≡◌, ℕ, ◌<◌, Bool, true, false, List, Option, Some, None}
use Rattle.lrc_trace.specs.declared.act.Act.{Act}
use Rattle.lrc_exec.specs.Plain.{Plain, plain_start}
use Rattle.lrc_exec.specs.States.{plain_at}
use Rattle.lrc_orders.specs.declared.noted.Noted.{Noted}
use Rattle.lrc_orders.specs.Traps.{has_trap}
use Rattle.lrc_orders_laws.specs.Settling.{Settles}
use Rattle.lrc_orders_laws.specs.Steps.{IsSettledState}
use Rattle.lrc_orders_live.specs.Like.{AreLike}
use Rattle.lrc_orders_settling.specs.declared.step.Step.{Step}
use Rattle.lrc_orders_settling.specs.Taking.{Takes}
use Rattle.lrc_orders_table.specs.declared.rows.Rows.{Rows}
use Rattle.lrc_orders_table.specs.declared.table.Led.{Led}
use Rattle.lrc_orders_table.specs.Rows.{IsRowAt}
use Rattle.lrc_explore.specs.declared.task.Task.{Task}
use Rattle.lrc_explore.specs.declared.task.Trapping.{Trapping}
use Rattle.lrc_explore.specs.declared.task.Trapping.TheVariants as trapping

-- a node traps as the program's start settles
pub record StartTraps (task : Task) : Type 0 where
  pub acts : List Act
  pub machine : Plain
  pub settles : Settles (plain_start task.program.now task.flat.nodes) acts machine
  pub traps : has_trap acts ≡ true

-- it is said whether one does
pub record ShowsStartTrap (task : Task) (traps : Bool) : Type 0 where
  pub each : (acts : List Act) (machine : Plain) → Settles (plain_start task.program.now task.flat.nodes) acts machine → has_trap acts ≡ traps
  pub made : traps ≡ true → StartTraps task

-- a node traps in a step from what is kept
pub record StepTraps (task : Task) (key : Noted) (step : Step) : Type 0 where
  pub acts : List Act
  pub after : Plain
  pub takes : Takes (plain_at task.flat key.state) step acts after
  pub traps : has_trap acts ≡ true

-- it is said whether one does
pub record ShowsTrap (task : Task) (key : Noted) (step : Step) (traps : Bool) : Type 0 where
  pub each : (acts : List Act) (after : Plain) → Takes (plain_at task.flat key.state) step acts after → has_trap acts ≡ traps
  pub made : traps ≡ true → StepTraps task key step

-- so it is of the state at a place
abbrev pub ShowsTrapAt : Task → Rows → (place : ℕ) → Step → Bool → Type 0
ShowsTrapAt task all place step traps = (key : Noted) → IsRowAt all place key → ShowsTrap task key step traps

-- whether a node traps in a step, where it can be taken
abbrev pub led_traps : Option Led → Bool
led_traps None = false
led_traps (Some led) = led.traps

-- the first step in which a node traps, where this one is next
abbrev pub first_step : Option Step → (traps : Bool) → Step → Option Step
first_step (Some first) traps step = Some first
first_step None true step = Some step
first_step None false step = None

-- in no step from what is kept a node traps
abbrev pub NoStepTraps : Task → Noted → Type 0
NoStepTraps task key = (step : Step) (acts : List Act) (after : Plain) → Takes (plain_at task.flat key.state) step acts after → has_trap acts ≡ false

-- in this step from it one does, or in none
abbrev pub IsStepTrap : Task → Noted → Option Step → Type 0
IsStepTrap task key None = NoStepTraps task key
IsStepTrap task key (Some step) = StepTraps task key step

abbrev pub IsStepTrapAt : Task → Rows → (place : ℕ) → Option Step → Type 0
IsStepTrapAt task all place trap = (key : Noted) → IsRowAt all place key → IsStepTrap task key trap

-- a node traps in this step from the state at a place, if one is named
abbrev pub IsTrapStepAt : Task → Rows → (place : ℕ) → Option Step → Type 0
IsTrapStepAt task all place None = Unit {0}
IsTrapStepAt task all place (Some step) = (key : Noted) → IsRowAt all place key → StepTraps task key step

-- where a node traps first, if it does as the start settles, and where this step from the state at this place is next
abbrev pub start_trap : Bool → Option Trapping
start_trap true = Some trapping.Start
start_trap false = None

abbrev pub first_trap : Option Trapping → Option Step → (place : ℕ) → Option Trapping
first_trap (Some first) step place = Some first
first_trap None (Some step) place = Some (trapping.Step (record { parent = place; step = step }))
first_trap None None place = None

-- a node traps there
abbrev pub IsTrapping : Task → Rows → Trapping → Type 0
IsTrapping task all trapping.Start = StartTraps task
IsTrapping task all (trapping.Step origin) = (key : Noted) × IsRowAt all origin.parent key × StepTraps task key origin.step

-- one does not as the start settles, nor in a step from one of the states before an index
pub record NowhereTraps (task : Task) (all : Rows) (index : ℕ) : Type 0 where
  pub start : (acts : List Act) (machine : Plain) → Settles (plain_start task.program.now task.flat.nodes) acts machine → has_trap acts ≡ false
  pub steps : (k : ℕ) (key : Noted) → k < index → IsRowAt all k key → NoStepTraps task key

-- there one does, or nowhere before an index
abbrev pub IsTrapSoFar : Task → Rows → (index : ℕ) → Option Trapping → Type 0
IsTrapSoFar task all index None = NowhereTraps task all index
IsTrapSoFar task all index (Some there) = IsTrapping task all there

-- an order in which no node traps leads to a settled state of the program that stands behind what is kept
pub record IsReachedTrapless (task : Task) (key : Noted) : Type 0 where
  pub acts : List Act
  pub machine : Plain
  pub led : IsSettledState task.program.now task.flat.nodes acts machine
  pub alike : AreLike machine (plain_at task.flat key.state)
  pub trapless : has_trap acts ≡ false

-- so it is of all
abbrev pub AreRowsTrapless : Task → Rows → Type 0
AreRowsTrapless task all = (k : ℕ) (key : Noted) → IsRowAt all k key → IsReachedTrapless task key

-- so it stays, if no node traps on the way to what is new
abbrev pub KeepsTrapless : Task → (old new : Rows) → (traps : Bool) → Type 0
KeepsTrapless task old new traps = traps ≡ false → AreRowsTrapless task old → AreRowsTrapless task new

-- the acts lead to a settled state of the program, and one of them is a trap
pub record LeadIntoTrap (task : Task) (acts : List Act) : Type 0 where
  pub machine : Plain
  pub led : IsSettledState task.program.now task.flat.nodes acts machine
  pub traps : has_trap acts ≡ true
