-- States from which one undisputed act is made, and those to which such acts lead.
use Rattle.std.specs.Prelude.{◌≡◌, ℕ, ◌+◌, ◌<◌, ◌≤◌, Bool, true, false, List, [], Option, Some, None, if◌then◌else◌, is_none, length, nat_lt, slice_get}
use Rattle.lrc_trace.specs.declared.act.Act.{Act}
use Rattle.lrc_exec.specs.declared.spot.Spot.{Spot}
use Rattle.lrc_exec.specs.States.{plain_at}
use Rattle.lrc_orders.specs.declared.noted.Noted.{Noted}
use Rattle.lrc_orders.specs.Kept.{Grows, IsAddedAt}
use Rattle.lrc_orders.specs.Traps.{has_trap}
use Rattle.lrc_orders_settling.specs.declared.step.Step.{Step}
use Rattle.lrc_orders_settling.specs.declared.step.Step.TheVariants.{Alone}
use Rattle.lrc_orders_live.specs.Like.{TakesLike}
use Rattle.lrc_orders_table.specs.declared.rows.Rows.{Rows}
use Rattle.lrc_orders_table.specs.Nexts.{notes_on}
use Rattle.lrc_orders_table.specs.Rows.{IsRowAt, row_count}
use Rattle.lrc_orders_less.specs.Reaches.{AreReaches, IsAlwaysUndisputed}
use Rattle.lrc_explore.specs.declared.task.Origin.{Origin}
use Rattle.lrc_explore.specs.declared.task.Task.{Task}
use Rattle.lrc_explore.specs.declared.task.Trapping.{Trapping}
use Rattle.lrc_explore.specs.declared.task.Trapping.TheVariants as trapping
use Rattle.lrc_explore.specs.Answers.{IsLongAt}
use Rattle.lrc_explore.specs.Reached.{AreFound, CannotTakeAt, IsMore}
use Rattle.lrc_explore.specs.Traps.{AreRowsTrapless, IsTrapping}
use Rattle.lrc_explore_less.specs.declared.less.Less.{Less}
use Rattle.lrc_explore_less.specs.declared.less.Pass.{Pass}
use Rattle.lrc_explore_less.specs.declared.less.Pass.TheVariants as pass

-- where a node traps first, where one does in this step or not
abbrev pub trap_then : Option Trapping → (traps : Bool) → Origin → Option Trapping
trap_then (Some first) traps origin = Some first
trap_then None true origin = Some (trapping.Step origin)
trap_then None false origin = None

-- what becomes of passing on to a place, which was added or not, where those from the first one on were passed just now
abbrev pub pass_of : (next : ℕ) → (added : Bool) → (first : ℕ) → Pass
pass_of next added first = if added then pass.On else (if nat_lt next first then pass.Joined else pass.Open)

-- a step leads from the state at one place to that at another; and it is said whether a node traps in it
pub record Reaches (task : Task) (all : Rows) (place : ℕ) (step : Step) (traps : Bool) (next : ℕ) : Type 0 where
  pub before : Noted
  pub there : IsRowAt all place before
  pub after : Noted
  pub comes : IsRowAt all next after
  pub acts : List Act
  pub takes : TakesLike (plain_at task.flat before.state) step acts (plain_at task.flat after.state)
  pub noted : task.noting ≡ true → after.notes.items ≡ notes_on before.notes.items acts
  pub shows : has_trap acts ≡ traps

-- so it is of one node's next act, which is undisputed; and no node traps in it, if calm
pub record Passes (task : Task) (all : Rows) (calm : Bool) (place next : ℕ) : Type 0 where
  pub node : ℕ
  pub traps : Bool
  pub reaches : Reaches task all place (Alone node) traps next
  pub known : IsAlwaysUndisputed task.flat reaches.before.state node
  pub trapless : calm ≡ true → traps ≡ false

-- by several such steps one after another
pub data Way (task : Task) (all : Rows) (calm : Bool) : ℕ → ℕ → Type 0 where
  stays : (place : ℕ) → Way task all calm place place
  passing : (place next to : ℕ) → Passes task all calm place next → Way task all calm next to → Way task all calm place to

-- to a state from which every step is taken
pub record LeadsOpen (task : Task) (all : Rows) (calm : Bool) (opens : List ℕ) (place : ℕ) : Type 0 where
  pub to : ℕ
  pub way : Way task all calm place to
  pub index : ℕ
  pub is_open : slice_get opens index ≡ Some to

-- a node traps there, if it is said where
abbrev pub IsTrap : Task → Rows → Option Trapping → Type 0
IsTrap task all None = Unit {0}
IsTrap task all (Some there) = IsTrapping task all there

-- What was found, and what is known of pairs of threads, is so. Where no node is said to trap, orders without a trap lead to all states.
pub record IsSound (task : Task) (less : Less) : Type 0 where
  pub found : AreFound task less.found
  pub reaches : AreReaches task.flat less.found.table.rows.threads.keys less.reaches
  pub trap : IsTrap task less.found.table.rows less.trap
  pub trapless : is_none less.trap ≡ true → AreRowsTrapless task less.found.table.rows

-- nothing was found yet, and nothing is known
pub record IsNone (task : Task) (less : Less) : Type 0 where
  pub found : AreFound task less.found
  pub rows : row_count less.found.table.rows ≡ 0
  pub opens : less.opens.items ≡ []
  pub reaches : (threads : List Spot) → AreReaches task.flat threads less.reaches

-- and from each state undisputed steps lead to one from which every step is taken
pub record AreLess (task : Task) (less : Less) : Type 0 where
  pub sound : IsSound task less
  pub leads : (place : ℕ) → place < row_count less.found.table.rows
      → LeadsOpen task less.found.table.rows (is_none less.trap) less.opens.items place
  pub within : (index place : ℕ) → slice_get less.opens.items index ≡ Some place → place < row_count less.found.table.rows
  pub few : length less.opens.items ≤ row_count less.found.table.rows

-- so it is of the states before the first one; from that one on, undisputed steps lead to the last
pub record ArePassing (task : Task) (less : Less) (first : ℕ) : Type 0 where
  pub sound : IsSound task less
  pub leads : (place : ℕ) → place < first → LeadsOpen task less.found.table.rows (is_none less.trap) less.opens.items place
  pub passed : (place last : ℕ) → first ≤ place → place ≤ last → last + 1 ≡ row_count less.found.table.rows
      → Way task less.found.table.rows (is_none less.trap) place last
  pub within : (index place : ℕ) → slice_get less.opens.items index ≡ Some place → place < first
  pub few : length less.opens.items ≤ first
  pub some : first < row_count less.found.table.rows

-- what was found stays at its places, what is open stays open, and if no node is said to trap none was
pub record Widens (old new : Less) : Type 0 where
  pub found : IsMore old.found new.found
  pub opens : Grows old.opens.items new.opens.items
  pub trap : is_none new.trap ≡ true → is_none old.trap ≡ true

-- these are the first so many places
abbrev pub AreFirst : List ℕ → (count : ℕ) → Type 0
AreFirst opens count = (length opens ≡ count) × ((index place : ℕ) → slice_get opens index ≡ Some place → place ≡ index)

-- some node computes too long from one of the states
abbrev pub IsLongSome : Task → Less → Type 0
IsLongSome task less = (place : ℕ) × IsLongAt task less.found.table.rows place

-- so it is, and what was found stays
pub record IsCutLess (task : Task) (old new : Less) : Type 0 where
  pub less : AreLess task new
  pub widens : Widens old new
  pub long : IsLongSome task new

-- what became of passing on
abbrev pub HasPassed : Task → Less → (first : ℕ) → Pass → Type 0
HasPassed task less first pass.Open = ArePassing task less first
HasPassed task less first pass.Joined = AreLess task less
HasPassed task less first pass.On = ArePassing task less first
HasPassed task less first pass.Long = ArePassing task less first × IsLongSome task less

-- a step was taken to a state at this place, which was added or not
pub record HasTaken (task : Task) (old new : Less) (place : ℕ) (step : Step) (put : ℕ × Bool) : Type 0 where
  pub traps : Bool
  pub reaches : Reaches task new.found.table.rows place step traps put.0
  pub added : IsAddedAt (row_count old.found.table.rows) (row_count new.found.table.rows) put.0 put.1
  pub trap : new.trap ≡ trap_then old.trap traps (record { parent = place; step = step })

-- or it cannot be taken
pub record HasNotTaken (task : Task) (old new : Less) (place : ℕ) (step : Step) : Type 0 where
  pub cannot : CannotTakeAt task new.found.table.rows place step
  pub rows : row_count new.found.table.rows ≡ row_count old.found.table.rows
  pub trap : new.trap ≡ old.trap

-- or some node computes too long in it
pub record HasStayed (task : Task) (old new : Less) (place : ℕ) : Type 0 where
  pub sound : IsSound task new
  pub widens : Widens old new
  pub opens : new.opens.items ≡ old.opens.items
  pub rows : row_count new.found.table.rows ≡ row_count old.found.table.rows
  pub long : IsLongAt task new.found.table.rows place

abbrev pub IsTaken : Task → (old new : Less) → (place : ℕ) → Step → Option (ℕ × Bool) → Type 0
IsTaken task old new place step None = HasNotTaken task old new place step
IsTaken task old new place step (Some put) = HasTaken task old new place step put
