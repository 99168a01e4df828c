-- What a node does that goes on, and what comes of it.
use Rattle.std.specs.Prelude.{◌≡◌, ◌≢◌, ℕ, false, true, Some, slice_get, slice_set}
use Rattle.std.specs.List.{list_any}
use Rattle.lrc_exec.specs.declared.spot.Spot.{Spot}
use Rattle.lrc_exec.specs.Ask.{TakesAnswer, ask_of}
use Rattle.lrc_exec.specs.Meaning.{next_of as next_of_thread}
use Rattle.lrc_exec.specs.Spots.{thread_at}
use Rattle.lrc_orders.specs.declared.noted.Noted.{Noted}
use Rattle.lrc_orders.specs.declared.search.ExploreFault.{ExploreFault}
use Rattle.lrc_orders.specs.declared.search.ExploreFault.TheVariants.{BadNodes, TooMany}
use Rattle.lrc_orders.specs.Traps.{is_trap}
use Rattle.lrc_orders_settling.specs.Settling.{MakesFree}
use Rattle.lrc_orders_settling.specs.Gone.{acts_by, freed}
use Rattle.lrc_orders_live.specs.Live.{forgot}
use Rattle.lrc_orders_table.specs.declared.rows.Row.{Row}
use Rattle.lrc_orders_table.specs.declared.next.Next.{Next}
use Rattle.lrc_orders_table.specs.declared.next.Settled.{Settled}
use Rattle.lrc_orders_table.specs.Nexts.{SettlesSo, next_in, notes_on, thread_then}
use Rattle.lrc_orders_table.specs.declared.known.Means.{Means}
use Rattle.lrc_orders_table.specs.declared.table.After.{After}
use Rattle.lrc_orders_table.specs.declared.table.Asked.{Asked}
use Rattle.lrc_orders_table.specs.declared.table.Led.{Led}
use Rattle.lrc_orders_table.specs.declared.table.Table.{Table}
use Rattle.lrc_orders_table.specs.Shared.{holders_then, words_then}
use Rattle.lrc_orders_table.specs.Tables.{IsRowOf, next_of}

-- a thread goes on: it has not stopped, and at no barrier neither traps nor ends next
pub record GoesOn (means : Means) (spot : Spot) : Type 0 where
  pub going : spot.stopped ≡ false
  pub takes : spot.arrived ≡ false → TakesAnswer (ask_of (next_of_thread (thread_at means.flat spot)))

-- so does the thread with this number, and that of a node of a row
pub record IsAskable (means : Means) (table : Table) (asked : Asked) : Type 0 where
  pub spot : Spot
  pub there : slice_get table.rows.threads.keys asked.thread ≡ Some spot
  pub goes : GoesOn means spot

pub record CanGo (means : Means) (table : Table) (row : Row) (node : ℕ) : Type 0 where
  pub key : Noted
  pub of : IsRowOf means table row key
  pub spot : Spot
  pub here : slice_get key.state.spots.items node ≡ Some spot
  pub goes : GoesOn means spot

-- it settles so
pub record IsAskedSettled (means : Means) (table : Table) (asked : Asked) (settled : Settled) : Type 0 where
  pub spot : Spot
  pub there : slice_get table.rows.threads.keys asked.thread ≡ Some spot
  pub so : SettlesSo means.flat spot asked.value settled

-- it is noted at this place what comes of a thread
abbrev pub HasAfter : Table → Asked → (place : ℕ) → Type 0
HasAfter table asked place = (after : After) × (slice_get table.afters.entries place ≡ Some (asked, after))

-- what is noted at a place comes of a thread of this node, which does this next
pub record IsNextOf (table : Table) (place node : ℕ) (next : Next) : Type 0 where
  pub asked : Asked
  pub after : After
  pub comes : slice_get table.afters.entries place ≡ Some (asked, after)
  pub spot : Spot
  pub there : slice_get table.rows.threads.keys asked.thread ≡ Some spot
  pub next_is : next ≡ next_of table asked.thread
  pub node_is : node ≡ spot.me

-- why it is not known what comes of a thread, and of a node: it makes as many free acts as may be looked at; or there
-- is no memory
pub record IsLongAsk (means : Means) (table : Table) (asked : Asked) (fault : ExploreFault) : Type 0 where
  pub nodes : fault ≢ BadNodes
  pub many : fault ≡ TooMany → (spot : Spot) → slice_get table.rows.threads.keys asked.thread ≡ Some spot
      → MakesFree means.looked (Some (thread_then means.flat spot asked.value))

pub record IsLongAct (means : Means) (key : Noted) (node value : ℕ) (fault : ExploreFault) : Type 0 where
  pub nodes : fault ≢ BadNodes
  pub many : fault ≡ TooMany → (spot : Spot) → slice_get key.state.spots.items node ≡ Some spot
      → MakesFree means.looked (Some (thread_then means.flat spot value))

-- the row stands for what a state becomes by a node's next act, which gives this value, once the node has settled; and it is said whether
-- the node then trapped
pub record HasGone (means : Means) (key : Noted) (node value : ℕ) (table : Table) (led : Led) : Type 0 where
  pub spot : Spot
  pub here : slice_get key.state.spots.items node ≡ Some spot
  pub settled : Settled
  pub so : SettlesSo means.flat spot value settled
  pub new : Noted
  pub of : IsRowOf means table led.row new
  pub traps : led.traps ≡ list_any is_trap settled.deeds.items
  pub memory : new.state.memory.items ≡ words_then (next_in means.flat spot) key.state.memory.items
  pub holders : new.state.holders.items ≡ freed settled.deeds.items (holders_then node (next_in means.flat spot) key.state.holders.items)
  pub spots : new.state.spots.items ≡ slice_set key.state.spots.items node (forgot means.live.now settled.spot)
  pub noted : means.noting ≡ true → new.notes.items ≡ notes_on key.notes.items (acts_by node settled.deeds.items)
  pub bare : means.noting ≡ false → new.notes.items ≡ key.notes.items
