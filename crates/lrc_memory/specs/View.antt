-- How a node's memory is kept, and how it is seen. The changes of a closed interval are made lazily: a page written in it
-- keeps its twin until they are needed (Keleher, Cox, Dwarkadas and Zwaenepoel 1994). Seen from outside they are made.
use Rattle.std.specs.Prelude.{ℕ, ◌≡◌, ◌<◌, ◌≤◌, ◌==◌, ◌&&◌, Bool, IsTrue, Option, None, Some, unwrap_or, List, []}
use Rattle.std.specs.Prelude.{◌∷◌, length, map, All, slice_index, slice_index_or, if◌then◌else◌}
use Rattle.std.specs.List.{range_with_len}
use Rattle.std.specs.Option.{ForSome, option_or}
use Rattle.lrc_page.specs.declared.changes.Change.{Change}
use Rattle.lrc_page.specs.declared.size.Size.{Size}
use Rattle.lrc_page.specs.Page.{words_of}
use Rattle.lrc_store.specs.declared.key.Key.{Key}
use Rattle.lrc_time.specs.Time.{Covers, entry}
use Rattle.lrc_store.specs.Interval.{index_of}
use Rattle.lrc_store.specs.Lists.{KnowsTheFirst}
use Rattle.lrc_store.specs.Store.{NoticeRecord, StoredRecord, StoreRecord, IsStore, interval_of, intervals_of, notice_at, attached}
use Rattle.lrc_table.specs.declared.slot.State.{State}
use Rattle.lrc_table.specs.declared.slot.State.TheVariants.{Valid, Written, Invalid, Absent}
use Rattle.lrc_table.specs.PageCopy.{PageCopy, pending_changes}
use Rattle.lrc_table.specs.Table.{Table, copy_at}
use Rattle.lrc_protocol.specs.Pages.{Copy, valid, written, invalid, absent, Memory}

-- what callers see: which node it is, the size of its pages, and its memory as the protocol has it
pub record NodeMemory : Type 0 where
  pub me : ℕ
  pub size : Size
  pub memory : Memory

abbrev pub with_known : NodeMemory → Memory → NodeMemory
with_known node memory = record node { memory = memory }

-- what every call leaves as it is: which node it is, and the numbers of words on a page, pages and nodes
pub record SameMemory (old new : NodeMemory) : Type 0 where
  pub me : new.me ≡ old.me
  pub size : new.size ≡ old.size
  pub pages : length new.memory.copies ≡ length old.memory.copies
  pub nodes : length new.memory.store.last ≡ length old.memory.store.last

-- what is kept: intervals, copies, and for each page the time from before it became invalid, the index of the own interval
-- that named it last, and its keeper; and the time up to which intervals were collected. These times are in step where each
-- was the store's when it was noted
pub record Kept : Type 0 where
  pub me : ℕ
  pub store : StoreRecord
  pub table : Table
  pub since : List (List ℕ)
  pub named : List ℕ
  pub keepers : List ℕ
  pub collected : List ℕ
  pub in_step : Bool

-- the store once changes of a key are made, if there are any to make
abbrev pub settled_store : StoreRecord → Key → Option (List Change) → StoreRecord
settled_store store key None = store
settled_store store key (Some changes) = attached store key changes

-- ---- copies

-- a copy as it is seen, by its state
abbrev pub seen_in : State → List ℕ → PageCopy → Copy
seen_in Valid since copy = valid copy.values
seen_in Written since copy = written copy.values (unwrap_or copy.twin [])
seen_in Invalid since copy = invalid copy.values since
seen_in Absent since copy = absent

abbrev pub seen_copy : Table → List (List ℕ) → ℕ → Copy
seen_copy table since page =
    let copy = copy_at table page in
    seen_in copy.state (slice_index_or since page []) copy

-- ---- changes that are not made yet

-- the changes that a key's page has still to make
abbrev pub unmade : ℕ → List ℕ → Table → Key → Option (List Change)
unmade me named table key =
    if (key.node == me) && (slice_index named key.page == key.index) then pending_changes (copy_at table key.page) else None

-- a notice, a stored interval and a store, with the changes that come from elsewhere in place of those that they have
abbrev pub notice_over : (Key → Option (List Change)) → ℕ → ℕ → NoticeRecord → NoticeRecord
notice_over other node index notice =
    record notice { changes = option_or (other (record { node = node; index = index; page = notice.page })) notice.changes }

abbrev pub stored_over : (Key → Option (List Change)) → StoredRecord → StoredRecord
stored_over other stored =
    record stored { notices = map (notice_over other stored.node (index_of (interval_of stored))) stored.notices }

abbrev pub store_over : (Key → Option (List Change)) → StoreRecord → StoreRecord
store_over other store = record store { entries = map (stored_over other) store.entries }

-- ---- the whole

-- what is kept, as the protocol has it
abbrev pub seen : Kept → Memory
seen kept = record {
  store = store_over (unmade kept.me kept.named kept.table) kept.store;
  copies = map (seen_copy kept.table kept.since) (range_with_len 0 (length kept.table.copies));
  bases = map (λ copy. copy.base) kept.table.copies;
  keepers = kept.keepers;
  collected = kept.collected;
}

abbrev pub node_seen : Kept → NodeMemory
node_seen kept = record { me = kept.me; size = kept.table.size; memory = seen kept }

-- the changes of a notice are of words of a page
abbrev pub AreSized : Size → StoredRecord → Type 0
AreSized size stored =
    All (λ notice. ForSome notice.changes (λ changes. All (λ c. c.offset < words_of size) changes)) stored.notices

-- the time may once have been the last indices of the store: they cover it, and of the notices of each page it knows
-- those that were added first
pub record WasLast (store : StoreRecord) (time : List ℕ) : Type 0 where
  pub covered : Covers store.last time
  pub first : (page : ℕ) → KnowsTheFirst store page time

-- what holds of what is kept: there is one of each for each page, times have an entry for each node and were the store's
-- last indices where they are in step, and the changes of a pending page are still to be made of the own interval that
-- named it last
pub record IsKept (kept : Kept) : Type 0 where
  pub pages : kept.store.pages ≡ length kept.table.copies
  pub since : length kept.since ≡ length kept.table.copies
  pub named : length kept.named ≡ length kept.table.copies
  pub keepers : length kept.keepers ≡ length kept.table.copies
  pub me : kept.me < length kept.store.last
  pub times : All (λ time. length time ≡ length kept.store.last) kept.since
  pub collected : length kept.collected ≡ length kept.store.last
  pub keeping : All (λ keeper. keeper < length kept.store.last) kept.keepers
  pub makers : All (λ interval. interval.node < length kept.store.last) (intervals_of kept.store)
  pub passed : All (λ index. index ≤ entry kept.store.last kept.me) kept.named
  pub in_step : IsTrue kept.in_step → All (WasLast kept.store) (kept.collected ∷ kept.since)
  pub store : IsStore kept.store
  pub sized : All (AreSized kept.table.size) kept.store.entries
  pub unmade : (page : ℕ) (changes : List Change) → pending_changes (copy_at kept.table page) ≡ Some changes
      → notice_at kept.store (record { node = kept.me; index = slice_index kept.named page; page = page })
      ≡ Some (record { page = page; changes = None })
