-- States that are enough: each step from one of them leads on to one of them.
use Rattle.std.specs.Prelude.{◌≡◌, ◌↔◌, ℕ, ◌<◌, Bool, true, false, IsTrue, List, Option, Some, None, is_none, length, slice_get}
use Rattle.lrc_trace.specs.declared.act.Act.{Act}
use Rattle.lrc_exec.specs.Plain.{Plain, plain_start}
use Rattle.lrc_exec.specs.States.{plain_at}
use Rattle.lrc_orders.specs.declared.noted.Noted.{Noted}
use Rattle.lrc_orders.specs.Meeting.{IsCalm}
use Rattle.lrc_orders.specs.Stuck.{IsStuck}
use Rattle.lrc_orders.specs.Traps.{has_trap}
use Rattle.lrc_orders_settling.specs.declared.step.Step.{Step}
use Rattle.lrc_orders_laws.specs.Settling.{Settles}
use Rattle.lrc_orders_table.specs.declared.rows.Rows.{Rows}
use Rattle.lrc_orders_table.specs.Rows.{IsRowAt}
use Rattle.lrc_explore.specs.declared.task.Task.{Task}
use Rattle.lrc_explore.specs.declared.task.End.{End}
use Rattle.lrc_explore.specs.declared.task.End.TheVariants as end
use Rattle.lrc_explore.specs.declared.task.Trapping.{Trapping}
use Rattle.lrc_explore.specs.Answers.{MeetAt}
use Rattle.lrc_explore.specs.Reached.{HasStart, IsExpandedAt}
use Rattle.lrc_explore.specs.Traps.{ShowsTrapAt}
use Rattle.lrc_explore_less.specs.declared.less.Less.{Less}
use Rattle.lrc_explore_less.specs.declared.seek.Visit.{Visit}
use Rattle.lrc_explore_less.specs.declared.seek.Visit.TheVariants as visit
use Rattle.lrc_explore_less.specs.Passing.{AreLess, IsLongSome}

-- no node traps in a step from the state at a place
abbrev pub IsTraplessAt : Task → Rows → (place : ℕ) → Type 0
IsTraplessAt task all place = (step : Step) → ShowsTrapAt task all place step false

-- no node traps as the program's start settles
abbrev pub IsStartTrapless : Task → Type 0
IsStartTrapless task = (acts : List Act) (machine : Plain) → Settles (plain_start task.program.now task.flat.nodes) acts machine → has_trap acts ≡ false

-- every step was taken from the state at a place; and no node traps in one, if calm
pub record IsDoneAt (task : Task) (all : Rows) (calm : Bool) (place : ℕ) : Type 0 where
  pub expanded : IsExpandedAt task all place
  pub trapless : calm ≡ true → IsTraplessAt task all place

-- so it is of the first ones that are open
abbrev pub AreDone : Task → Less → (index : ℕ) → Type 0
AreDone task less index =
    (k place : ℕ) → k < index → slice_get less.opens.items k ≡ Some place → IsDoneAt task less.found.table.rows (is_none less.trap) place

-- no two nodes meet at them, and the program is stuck at none of them
abbrev pub AreOpenCalm : Task → Less → (index : ℕ) → Type 0
AreOpenCalm task less index =
    (k place : ℕ) (key : Noted) → k < index → slice_get less.opens.items k ≡ Some place → IsRowAt less.found.table.rows place key
    → IsCalm (plain_at task.flat key.state)

abbrev pub AreOpenGoing : Task → Less → (index : ℕ) → Type 0
AreOpenGoing task less index =
    (k place : ℕ) (key : Noted) → k < index → slice_get less.opens.items k ≡ Some place → IsRowAt less.found.table.rows place key
    → ¬ IsStuck (plain_at task.flat key.state)

-- it is said at which of them it is stuck, or it is at none
abbrev pub IsStuckOpen : Task → Less → (index : ℕ) → Option ℕ → Type 0
IsStuckOpen task less index None = AreOpenGoing task less index
IsStuckOpen task less index (Some place) = (key : Noted) × IsRowAt less.found.table.rows place key × IsStuck (plain_at task.flat key.state)

-- the start was found, and no node traps as it settles, if none is said to trap
pub record HasBegun (task : Task) (less : Less) : Type 0 where
  pub start : HasStart task less.found.table.rows
  pub trapless : is_none less.trap ≡ true → IsStartTrapless task

-- so it is of all: the states are enough
pub record AreEnough (task : Task) (less : Less) : Type 0 where
  pub less_is : AreLess task less
  pub begun : HasBegun task less
  pub done : AreDone task less (length less.opens.items)

-- past all of them
pub record IsThrough (task : Task) (less : Less) (stuck : Option ℕ) (trap : Option Trapping) : Type 0 where
  pub done : AreDone task less (length less.opens.items)
  pub halted : IsStuckOpen task less (length less.opens.items) stuck
  pub trap_is : trap ≡ less.trap

-- at a state where two nodes meet; or past all of them, where no two nodes meet if that is looked for
abbrev pub IsEnd : Task → Less → (races : Bool) → End → Type 0
IsEnd task less races (end.Meeting place p q) = MeetAt task less.found races place p q
IsEnd task less races (end.Through stuck trap) = IsThrough task less stuck trap × (races ≡ true → AreOpenCalm task less (length less.opens.items))

-- what was seen at an open state, and that every step was taken from it
pub record IsPast (task : Task) (less : Less) (place : ℕ) (races stuck : Bool) : Type 0 where
  pub key : Noted
  pub there : IsRowAt less.found.table.rows place key
  pub calm : races ≡ true → IsCalm (plain_at task.flat key.state)
  pub halted : IsTrue stuck ↔ IsStuck (plain_at task.flat key.state)
  pub done : IsDoneAt task less.found.table.rows (is_none less.trap) place

abbrev pub IsVisit : Task → Less → (place : ℕ) → (races : Bool) → Visit → Type 0
IsVisit task less place races (visit.Meeting p q) = MeetAt task less.found races place p q
IsVisit task less place races (visit.Past stuck) = IsPast task less place races stuck
IsVisit task less place races visit.Cut = IsLongSome task less
