-- Who keeps the pages after a collection.
use Rattle.std.specs.Prelude.{◌≡◌, ◌↔◌, ℕ, ◌<◌, ◌≤◌, true, false, List, map, length, Contains}
use Rattle.lrc_time.specs.Time.{entry}
use Rattle.lrc_page.specs.declared.size.Size.{Size}
use Rattle.lrc_store.specs.Interval.{IntervalRecord, index_of}
use Rattle.lrc_store.specs.Store.{StoredRecord, StoreRecord, interval_of, intervals_of}
use Rattle.lrc_protocol.specs.Times.{is_named}
use Rattle.lrc_protocol.specs.Pages.{Memory, keeper_at}
use Rattle.lrc_protocol.specs.Barriers.{with_keepers}
use Rattle.lrc_exact.specs.Rule.{Knowledge, keeper_of}
use Rattle.lrc_exact_made.specs.Copies.{AreExactly}
use Rattle.lrc_exact_made.specs.Steps.{IsAmong}

-- A store has just the intervals that were made, that are known and that were not dropped; and what is known of each is what it did.
pub record StoresWhatIsKnown (size : Size) (nodes : ℕ) (made : List StoredRecord) (dropped : List ℕ) (all : Knowledge) (store : StoreRecord)
    : Type 0 where
  pub exactly : AreExactly size made all
  pub reach : (q k : ℕ) → 1 ≤ k → k ≤ entry all.time q → IsAmong made q k
  pub among : (y : StoredRecord) → Contains made y → y.node < nodes
  pub just : (i : IntervalRecord) → Contains (intervals_of store) i
      ↔ (Contains (map interval_of made) i × (entry dropped i.node < index_of i) × (index_of i ≤ entry all.time i.node))

-- Then a page that is named gets the exact memory's keeper; and of a page that is not the exact memory has no new one, and it stays with the
-- one before.
abbrev pub KeepersAreExact : Type 0
KeepersAreExact = (size : Size) (nodes : ℕ) (made : List StoredRecord) (dropped : List ℕ) (all : Knowledge) (memory : Memory) (page : ℕ)
    → StoresWhatIsKnown size nodes made dropped all memory.store → page < length memory.keepers
    → (is_named (intervals_of memory.store) page ≡ true → keeper_at (with_keepers memory) page ≡ keeper_of nodes dropped all page)
    × (is_named (intervals_of memory.store) page ≡ false
    → (keeper_of nodes dropped all page ≡ nodes) × (keeper_at (with_keepers memory) page ≡ keeper_at memory page))
