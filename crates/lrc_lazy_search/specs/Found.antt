-- Rows of numbers, and the states that they stand for.
use Rattle.std.specs.Prelude.{◌≡◌, ℕ, List, Some, length, slice_get}
use Rattle.std.specs.List.{IsDistinct}
use Rattle.lrc_exec.specs.declared.spot.Flat.{Flat}
use Rattle.lrc_orders.specs.Kept.{AreSpotsDistinct, Grows}
use Rattle.lrc_lazy_search.specs.declared.state.LazyState.{LazyState}
use Rattle.lrc_lazy_search.specs.declared.found.Found.{Found}
use Rattle.lrc_lazy_search.specs.declared.found.Row.{Row}
use Rattle.lrc_lazy_search.specs.contracts.found.RowPartialEq.TheImpl.{eq-value as row_eq}
use Rattle.lrc_lazy_search.specs.Parts.{AreCommonsDistinct, AreNotesAt, AreNotesDistinct, AreThreadsAt, IsCommonAt}
use Rattle.lrc_lazy_search.specs.Searching.{IsNeat}

-- the state that a row stands for, which is written in the one way
pub record StandsFor (flat : Flat) (all : Found) (row : Row) (key : LazyState) : Type 0 where
  pub threads : AreThreadsAt all.threads.keys flat.nodes row.threads key.state.spots.items
  pub common : IsCommonAt all.commons.keys row.common key
  pub notes : AreNotesAt all.notes.keys row.notes key.notes.items
  pub neat : IsNeat flat key

-- how many states there are
abbrev pub found_count : Found → ℕ
found_count all = length all.rows.keys

-- the row at this place stands for this state
pub record IsFoundAt (flat : Flat) (all : Found) (place : ℕ) (key : LazyState) : Type 0 where
  pub row : Row
  pub there : slice_get all.rows.keys place ≡ Some row
  pub stands : StandsFor flat all row key

-- no two parts are equal, and no two rows
pub record AreDistinct (all : Found) : Type 0 where
  pub threads : AreSpotsDistinct all.threads.keys
  pub commons : AreCommonsDistinct all.commons.keys
  pub notes : AreNotesDistinct all.notes.keys
  pub rows : IsDistinct row_eq.it all.rows.keys

-- all stay where they are, and there may be more
pub record Widens (old new : Found) : Type 0 where
  pub threads : Grows old.threads.keys new.threads.keys
  pub commons : Grows old.commons.keys new.commons.keys
  pub notes : Grows old.notes.keys new.notes.keys
  pub rows : Grows old.rows.keys new.rows.keys

-- these are the states, each at its place
pub record AreFound (flat : Flat) (all : Found) (keys : List LazyState) : Type 0 where
  pub long : length keys ≡ found_count all
  pub each : (k : ℕ) (key : LazyState) → slice_get keys k ≡ Some key → IsFoundAt flat all k key
