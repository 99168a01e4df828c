-- Rows of numbers, and the states with notes that they stand for.
use Rattle.std.specs.Prelude.{◌≡◌, ℕ, ◌<◌, ◌≤◌, ◌⊎◌, List, Some, length, slice_get, slice_index}
use Rattle.std.specs.List.{IsDistinct}
use Rattle.lrc_exec.specs.declared.spot.Spot.{Spot}
use Rattle.lrc_orders.specs.declared.noted.Noted.{Noted}
use Rattle.lrc_orders.specs.Kept.{AreSpotsDistinct, Grows}
use Rattle.lrc_orders_settling.specs.Taking.{IsCounted}
use Rattle.lrc_orders_memory.specs.Sharing.{AreSharedDistinct, IsSharedAt, KeepsShared}
use Rattle.lrc_orders_table.specs.Links.{AreNotesAt, AreNotesSound, GrowNotes}
use Rattle.lrc_orders_table.specs.declared.rows.Row.{Row}
use Rattle.lrc_orders_table.specs.declared.rows.Rows.{Rows}
use Rattle.lrc_orders_table.specs.contracts.rows.RowPartialEq.TheImpl.{eq-value as row_eq}

-- the threads of so many nodes with these 16 numbers; past the nodes the numbers are 0
pub record AreThreadsAt (keys : List Spot) (nodes : ℕ) (numbers : List ℕ) (spots : List Spot) : Type 0 where
  pub long : length numbers ≡ 16
  pub count : length spots ≡ nodes
  pub each : (node : ℕ) → node < nodes → slice_get keys (slice_index numbers node) ≡ slice_get spots node
  pub past : (node : ℕ) → nodes ≤ node → slice_index numbers node ≡ 0

-- some threads have these numbers
abbrev pub HaveThreads : List Spot → (nodes : ℕ) → (numbers : List ℕ) → Type 0
HaveThreads keys nodes numbers = (spots : List Spot) × AreThreadsAt keys nodes numbers spots

-- each thread was there before, or is one of these
abbrev pub AddsThreads : (old new spots : List Spot) → Type 0
AddsThreads old new spots = (k : ℕ) (x : Spot) → slice_get new k ≡ Some x → (slice_get old k ≡ Some x) ⊎ ((j : ℕ) × (slice_get spots j ≡ Some x))

-- the state with its notes that a row stands for. How often a node has arrived is not kept: once where it waits, and
-- else never
pub record StandsFor (all : Rows) (row : Row) (key : Noted) : Type 0 where
  pub few : all.nodes ≤ 16
  pub threads : AreThreadsAt all.threads.keys all.nodes row.threads key.state.spots.items
  pub shared : IsSharedAt all.shared row.shared key.state.memory.items key.state.holders.items
  pub notes : AreNotesAt all.notes row.notes key.notes.items
  pub counted : IsCounted key.state

-- how many rows there are
abbrev pub row_count : Rows → ℕ
row_count all = length all.rows.keys

-- the row at this place stands for this state with its notes
pub record IsRowAt (all : Rows) (place : ℕ) (key : Noted) : Type 0 where
  pub row : Row
  pub there : slice_get all.rows.keys place ≡ Some row
  pub stands : StandsFor all row key

-- it stands for some state
abbrev pub IsRowPlace : Rows → (place : ℕ) → Type 0
IsRowPlace all place = (key : Noted) × IsRowAt all place key

-- so does each before the end
abbrev pub AreRowsFull : Rows → Type 0
AreRowsFull all = (k : ℕ) → k < row_count all → IsRowPlace all k

-- all stay where they are, and there may be more
pub record WidensRows (old new : Rows) : Type 0 where
  pub nodes : new.nodes ≡ old.nodes
  pub threads : Grows old.threads.keys new.threads.keys
  pub shared : KeepsShared old.shared new.shared
  pub notes : GrowNotes old.notes new.notes
  pub rows : Grows old.rows.keys new.rows.keys

-- no two parts are equal, and no two rows
pub record AreRowsDistinct (all : Rows) : Type 0 where
  pub threads : AreSpotsDistinct all.threads.keys
  pub shared : AreSharedDistinct all.shared
  pub notes : AreNotesSound all.notes
  pub rows : IsDistinct row_eq.it all.rows.keys
