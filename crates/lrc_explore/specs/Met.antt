-- A search that is cut short tells what it met.
use Rattle.std.specs.Prelude.{◌≡◌, ◌&&◌, ℕ, ◌<◌, ◌≤◌, Bool, true, false, is_some, List, Option, Some, None, option_map, slice_get}
use Rattle.lrc_program.specs.declared.Program.{Program}
use Rattle.lrc_exec.specs.Plain.{plain_start}
use Rattle.lrc_exec.specs.States.{plain_at}
use Rattle.lrc_orders.specs.declared.noted.Noted.{Noted}
use Rattle.lrc_orders.specs.declared.search.Findings.{Findings}
use Rattle.lrc_orders.specs.Stuck.{GetsStuck, IsStuck}
use Rattle.lrc_orders.specs.Traps.{NodeTraps}
use Rattle.lrc_orders_settling.specs.Taking.{ComputesLong}
use Rattle.lrc_orders_table.specs.declared.rows.Rows.{Rows}
use Rattle.lrc_orders_table.specs.Rows.{IsRowAt, row_count}
use Rattle.lrc_explore.specs.declared.task.Found.{Found}
use Rattle.lrc_explore.specs.declared.task.Sought.{Sought}
use Rattle.lrc_explore.specs.declared.task.Sought.TheVariants as sought
use Rattle.lrc_explore.specs.declared.task.Task.{Task}
use Rattle.lrc_explore.specs.declared.task.Trapping.{Trapping}
use Rattle.lrc_explore.specs.declared.task.Visit.{Visit}
use Rattle.lrc_explore.specs.declared.task.Visit.TheVariants as visit
use Rattle.lrc_explore.specs.Answers.{AreSettledApart, FitsEnd, IsEnd, MetTooMany, SettlesLong, looked_at}
use Rattle.lrc_explore.specs.Cut.{IsCut, IsCutAmong}
use Rattle.lrc_explore.specs.Reached.{AreCalm, AreNowhereStuck}
use Rattle.lrc_explore.specs.Traps.{AreRowsTrapless, IsReachedTrapless, IsTrapping, KeepsTrapless}

-- ---- of the states that a search has found

-- the program is stuck at the state at a place
abbrev pub IsStuckAt : Task → Rows → (place : ℕ) → Type 0
IsStuckAt task all place = (key : Noted) × IsRowAt all place key × IsStuck (plain_at task.flat key.state)

-- so it is at this place, or at none
abbrev pub IsStuckMet : Task → Rows → Option ℕ → Type 0
IsStuckMet task all None = AreNowhereStuck task all (row_count all)
IsStuckMet task all (Some place) = IsStuckAt task all place

-- a node traps there, or orders without a trap lead to all states
abbrev pub IsTrapMet : Task → Rows → Option Trapping → Type 0
IsTrapMet task all None = AreRowsTrapless task all
IsTrapMet task all (Some there) = IsTrapping task all there

-- There are more states than may be, or from one of them some node computes too long; and no two nodes meet at one, if
-- that is looked for. It is said where the program is stuck, and where a node traps.
pub record IsMany (task : Task) (all : Rows) (races : Bool) (stuck : Option ℕ) (trap : Option Trapping) : Type 0 where
  pub cut : IsCut task all
  pub calm : races ≡ true → AreCalm task all (row_count all)
  pub halted : IsStuckMet task all stuck
  pub traps : IsTrapMet task all trap

-- where a search ended
abbrev pub IsSought : Task → Found → (races : Bool) → Sought → Type 0
IsSought task found races (sought.Ended end) = IsEnd task found races end
IsSought task found races (sought.Many stuck trap) = IsMany task found.table.rows races stuck trap

-- a search that went past all of its states met no more than it may
abbrev pub FitsSought : Task → Found → Sought → Type 0
FitsSought task found (sought.Ended end) = FitsEnd task found end
FitsSought task found (sought.Many stuck trap) = Unit {0}

-- where no node traps in a step from the state that was visited, orders without a trap lead to what was found, as before
abbrev pub VisitKeeps : Task → (old new : Rows) → Visit → Type 0
VisitKeeps task old new (visit.Meeting p q) = Unit {0}
VisitKeeps task old new (visit.Past stuck trap) = KeepsTrapless task old new (is_some trap)
VisitKeeps task old new (visit.Cut trap) = KeepsTrapless task old new (is_some trap)

-- what stands behind those before is at this place
abbrev pub IsOnlyNew : (was now place : ℕ) → Type 0
IsOnlyNew was now place = (k : ℕ) → was ≤ k → k < now → k ≡ place

-- the program is stuck at one of them and after the order given, or it is at none of them
abbrev pub TellsStuckAt : Task → Rows → Option (List ℕ) → Type 0
TellsStuckAt task all None = AreNowhereStuck task all (row_count all)
TellsStuckAt task all (Some order) = ((place : ℕ) × IsStuckAt task all place) × GetsStuck task.program.now task.flat.nodes order

-- in the order given a node traps, or orders without a trap lead to all of them
abbrev pub TellsTrapAt : Task → Rows → Option (List ℕ) → Type 0
TellsTrapAt task all None = AreRowsTrapless task all
TellsTrapAt task all (Some order) = NodeTraps task.program.now task.flat.nodes order

-- ---- of a program

-- the program is stuck at one of these states
pub record IsStuckAmong (task : Task) (keys : List Noted) : Type 0 where
  pub place : ℕ
  pub key : Noted
  pub there : slice_get keys place ≡ Some key
  pub stuck : IsStuck (plain_at task.flat key.state)

-- Of these states: the program is stuck at one of them, and after the order given; or it is at none of them
abbrev pub TellsStuckMet : Task → List Noted → Option (List ℕ) → Type 0
TellsStuckMet task keys None = (k : ℕ) (key : Noted) → slice_get keys k ≡ Some key → ¬ IsStuck (plain_at task.flat key.state)
TellsStuckMet task keys (Some order) = IsStuckAmong task keys × GetsStuck task.program.now task.flat.nodes order

-- in the order given a node traps, or to each of these states an order leads in which none does
abbrev pub TellsTrapMet : Task → List Noted → Option (List ℕ) → Type 0
TellsTrapMet task keys None = (k : ℕ) (key : Noted) → slice_get keys k ≡ Some key → IsReachedTrapless task key
TellsTrapMet task keys (Some order) = NodeTraps task.program.now task.flat.nodes order

-- what was met at these states is told
pub record TellsMet (task : Task) (keys : List Noted) (met : Findings) : Type 0 where
  pub stuck : TellsStuckMet task keys (option_map (λ order. order.items) met.stuck)
  pub trap : TellsTrapMet task keys (option_map (λ order. order.items) met.trap)

-- so it is of states that stand for settled states of the program: they are more than a bound, or some node computes
-- too long from one of them
pub record HasMet (task : Task) (most : ℕ) (races : Bool) (met : Findings) : Type 0 where
  pub keys : List Noted
  pub are : AreSettledApart task keys races
  pub cut : IsCutAmong task most keys
  pub tells : TellsMet task keys met

-- so it is of a program, of which a search was cut short
pub record GaveUp (program : Program) (nodes most : ℕ) (races : Bool) (met : Findings) : Type 0 where
  pub search : MetTooMany program nodes most false races
  pub has : HasMet search.task most races met

-- some node makes as many free acts as a search may look at that may meet so many states, from the program's start or from a settled state
pub data ComputesTooLong (program : Program) (nodes most : ℕ) : Type 0 where
  starts_too_long : ComputesLong (plain_start program nodes) (looked_at most) → ComputesTooLong program nodes most
  settles_too_long : SettlesLong program nodes (looked_at most) → ComputesTooLong program nodes most

-- an order that gets stuck is told, and one in which a node traps
abbrev pub tells_both : Findings → Bool
tells_both met = is_some met.stuck && is_some met.trap

-- after the order given, if there is one, the program is stuck
abbrev pub IsStuckOrder : Program → (nodes : ℕ) → Option (List ℕ) → Type 0
IsStuckOrder program nodes None = Unit {0}
IsStuckOrder program nodes (Some order) = GetsStuck program nodes order

-- in the order given, if there is one, a node traps
abbrev pub IsTrapOrder : Program → (nodes : ℕ) → Option (List ℕ) → Type 0
IsTrapOrder program nodes None = Unit {0}
IsTrapOrder program nodes (Some order) = NodeTraps program nodes order
