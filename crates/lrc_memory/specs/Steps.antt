-- What the parts of a call do to the page table.
use Rattle.std.specs.Prelude.{ℕ, ◌==◌, List, length, map, fold, slice_index, slice_index_or, slice_set, if◌then◌else◌}
use Rattle.std.specs.List.{range_with_len}
use Rattle.lrc_page.specs.Changes.{applied}
use Rattle.lrc_store.specs.declared.key.Key.{Key}
use Rattle.lrc_store.specs.Store.{StoreRecord, added}
use Rattle.lrc_table.specs.PageCopy.{PageCopy, installed, without_base}
use Rattle.lrc_table.specs.Table.{Table, copy_at}
use Rattle.lrc_store.specs.Interval.{IntervalRecord}
use Rattle.lrc_protocol.specs.Pages.{Copy, absent, invalidated, Memory, changes_or_none, Base, unneeded, due, come}
use Rattle.lrc_table.specs.declared.slot.State.{State}
use Rattle.lrc_table.specs.declared.slot.State.TheVariants.{Valid, Written, Invalid, Absent}

-- the copy that a repair begins with
abbrev pub begun_with : PageCopy → Base → PageCopy
begun_with copy (come values) = installed copy values
begun_with copy _ = copy

-- a copy with the known changes of these keys written into it
abbrev pub patched_with : StoreRecord → PageCopy → List Key → PageCopy
patched_with store copy keys = record copy { values = fold applied copy.values (map (changes_or_none store) keys) }

-- the copy of a page, with its base copy if this node keeps the page
abbrev pub kept_base : ℕ → List ℕ → Table → ℕ → PageCopy
kept_base me keepers table page =
    let copy = copy_at table page in
    if slice_index keepers page == me then copy else without_base copy

-- the table without base copies of pages that other nodes keep
abbrev pub without_bases : ℕ → List ℕ → Table → Table
without_bases me keepers table = record table { copies = map (kept_base me keepers table) (range_with_len 0 (length table.copies)) }

-- the copies once a page is known to be written by another node
abbrev pub invalidated_on : List ℕ → List Copy → ℕ → List Copy
invalidated_on before copies page = slice_set copies page (invalidated before (slice_index_or copies page absent))

-- the memory once one more interval is learned
abbrev pub learned_one : List ℕ → Memory → IntervalRecord → Memory
learned_one before memory interval = record memory {
  store = added memory.store interval;
  copies = fold (invalidated_on before) memory.copies interval.pages;
}

-- the base copy that is needed, by the state of the copy
abbrev pub base_in : State → ℕ → Base
base_in Valid keeper = unneeded
base_in Written keeper = unneeded
base_in Invalid keeper = unneeded
base_in Absent keeper = due keeper
