-- What is known of the threads of rows, and to what steps from a row lead.
use Rattle.std.specs.Prelude.{◌≡◌, ◌≢◌, ℕ, ◌≤◌, false, true, All, List, Option, Some, length, map, slice_get, slice_index, slice_index_or}
use Rattle.std.specs.List.{list_any}
use Rattle.lrc_trace.specs.declared.act.Act.{Act}
use Rattle.lrc_exec.specs.declared.spot.Spot.{Spot}
use Rattle.lrc_exec.specs.Plain.{Plain}
use Rattle.lrc_exec.specs.Spots.{IsFlat}
use Rattle.lrc_exec.specs.States.{IsStateOf, plain_at}
use Rattle.lrc_orders.specs.declared.noted.Noted.{Noted}
use Rattle.lrc_orders.specs.declared.search.ExploreFault.{ExploreFault}
use Rattle.lrc_orders.specs.declared.search.ExploreFault.TheVariants.{BadNodes, TooMany}
use Rattle.lrc_orders.specs.Traps.{has_trap, is_trap}
use Rattle.lrc_orders_laws.specs.Settling.{IsSettled}
use Rattle.lrc_orders_settling.specs.declared.step.Step.{Step}
use Rattle.lrc_orders_settling.specs.Gone.{freed}
use Rattle.lrc_orders_settling.specs.Taking.{ComputesLong, Takes}
use Rattle.lrc_orders_live.specs.Like.{TakesLike}
use Rattle.lrc_orders_live.specs.Live.{AreLive, forgot}
use Rattle.lrc_orders_table.specs.declared.rows.Row.{Row}
use Rattle.lrc_orders_memory.specs.Sharing.{IsSharedAt}
use Rattle.lrc_orders_table.specs.Rows.{AreRowsDistinct, StandsFor, WidensRows}
use Rattle.lrc_orders_table.specs.declared.next.Next.{Next}
use Rattle.lrc_orders_table.specs.declared.next.Next.TheVariants.{Stopped}
use Rattle.lrc_orders_table.specs.declared.next.Settled.{Settled}
use Rattle.lrc_orders_table.specs.Nexts.{SettlesSo, next_in, notes_on}
use Rattle.lrc_orders_table.specs.Shared.{holders_then, words_then}
use Rattle.lrc_orders_table.specs.declared.known.Means.{Means}
use Rattle.lrc_orders_table.specs.declared.table.After.{After}
use Rattle.lrc_orders_table.specs.declared.table.Asked.{Asked}
use Rattle.lrc_orders_table.specs.declared.table.Change.{Change}
use Rattle.lrc_orders_table.specs.declared.table.Led.{Led}
use Rattle.lrc_orders_table.specs.declared.table.Table.{Table}

-- the code is sound, and of each place of it the names are known that matter there
pub record AreMeans (means : Means) : Type 0 where
  pub flat : IsFlat means.flat
  pub live : AreLive means.flat.code.now means.live.now

-- a thread settles so after its next act, if that gives this value; the values are forgotten that are dead there, and it is known
-- whether it traps
pub record IsAfter (means : Means) (keys : List Spot) (asked : Asked) (after : After) : Type 0 where
  pub spot : Spot
  pub there : slice_get keys asked.thread ≡ Some spot
  pub settled : Settled
  pub so : SettlesSo means.flat spot asked.value settled
  pub kept : slice_get keys after.thread ≡ Some (forgot means.live.now settled.spot)
  pub deeds : after.deeds.items ≡ settled.deeds.items
  pub traps : after.traps ≡ list_any is_trap settled.deeds.items

-- what a thread with this number does next
abbrev pub next_of : Table → (number : ℕ) → Next
next_of table number = slice_index_or table.nexts.items number Stopped

-- what is shared becomes this by what a thread does next and what comes of it
pub record IsChange (table : Table) (change : Change) (number : ℕ) : Type 0 where
  pub asked : Asked
  pub after : After
  pub comes : slice_get table.afters.entries change.after ≡ Some (asked, after)
  pub spot : Spot
  pub there : slice_get table.rows.threads.keys asked.thread ≡ Some spot
  pub words : List ℕ
  pub holders : List (Option ℕ)
  pub before : IsSharedAt table.rows.shared change.shared words holders
  pub becomes : IsSharedAt table.rows.shared number (words_then (next_of table asked.thread) words)
      (freed after.deeds.items (holders_then spot.me (next_of table asked.thread) holders))

-- what was noted of what becomes of what is shared is so
abbrev pub AreChanges : Table → Type 0
AreChanges table = (k : ℕ) (change : Change) (number : ℕ) → slice_get table.changes.entries k ≡ Some (change, number) → IsChange table change number

-- no thread keeps a value that is dead, and of each it is known what it does next; what was noted of what comes of
-- threads is so, and of what then becomes of what is shared
pub record IsTable (means : Means) (table : Table) : Type 0 where
  pub distinct : AreRowsDistinct table.rows
  pub nodes : table.rows.nodes ≡ means.flat.nodes
  pub placed : All (λ spot. spot.place ≤ length means.flat.code.now) table.rows.threads.keys
  pub bare : All (λ spot. forgot means.live.now spot ≡ spot) table.rows.threads.keys
  pub nexts : table.nexts.items ≡ map (next_in means.flat) table.rows.threads.keys
  pub afters : (k : ℕ) (asked : Asked) (after : After) → slice_get table.afters.entries k ≡ Some (asked, after)
      → IsAfter means table.rows.threads.keys asked after
  pub changes : AreChanges table

-- the same rows, of parts that may be more
pub record KeepsRows (old new : Table) : Type 0 where
  pub rows : new.rows.rows.keys ≡ old.rows.rows.keys
  pub widens : WidensRows old.rows new.rows

-- a row stands for a state of the code
pub record IsRowOf (means : Means) (table : Table) (row : Row) (key : Noted) : Type 0 where
  pub stands : StandsFor table.rows row key
  pub valid : IsStateOf means.flat key.state

-- a row of a table of what is so
pub record IsKnown (table : Table) (row : Row) : Type 0 where
  pub means : Means
  pub known : IsTable means table
  pub key : Noted
  pub of : IsRowOf means table row key

-- what a node of a row does next
abbrev pub next_at : Table → Row → (node : ℕ) → Next
next_at table row node = next_of table (slice_index row.threads node)

-- what a step is taken from: a state that a row stands for, of the code and settled
pub record IsTakenFrom (means : Means) (table : Table) (row : Row) (key : Noted) : Type 0 where
  pub of : IsRowOf means table row key
  pub settled : IsSettled (plain_at means.flat key.state)

abbrev pub IsTakenFromSome : Means → Table → Row → Type 0
IsTakenFromSome means table row = (key : Noted) × IsTakenFrom means table row key

-- no step does
abbrev pub CannotTakeFrom : Means → Noted → Step → Type 0
CannotTakeFrom means key step = (acts : List Act) (after : Plain) → ¬ Takes (plain_at means.flat key.state) step acts after

-- what a step leads to: the row stands for a state like the one that the step makes, but for values that are dead, and
-- for its notes if notes are kept; and it is said whether one of its acts is a trap
pub record LeadsToRow (means : Means) (table : Table) (key : Noted) (step : Step) (led : Led) : Type 0 where
  pub next : Noted
  pub of : IsRowOf means table led.row next
  pub acts : List Act
  pub traps : led.traps ≡ has_trap acts
  pub takes : TakesLike (plain_at means.flat key.state) step acts (plain_at means.flat next.state)
  pub noted : means.noting ≡ true → next.notes.items ≡ notes_on key.notes.items acts
  pub bare : means.noting ≡ false → next.notes.items ≡ key.notes.items

-- why a step is not taken: a thread makes as many free acts as may be looked at; or there is no memory
pub record IsLongFault (means : Means) (key : Noted) (fault : ExploreFault) : Type 0 where
  pub nodes : fault ≢ BadNodes
  pub many : fault ≡ TooMany → ComputesLong (plain_at means.flat key.state) means.looked

-- where a thread makes as many free acts as may be looked at, the table is still one, and its rows are the same
abbrev pub KeepsIfLong : Means → (old new : Table) → ExploreFault → Type 0
KeepsIfLong means old new fault = fault ≡ TooMany → IsTable means new × KeepsRows old new
