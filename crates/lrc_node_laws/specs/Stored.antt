-- Which intervals a node stores.
use Rattle.std.specs.Prelude.{◌≡◌, ℕ, ◌+◌, ◌-◌, List}
use Rattle.std.specs.List.{range_with_len}
use Rattle.lrc_time.specs.Time.{entry, Covers}
use Rattle.lrc_store.specs.Store.{intervals_of}
use Rattle.lrc_protocol.specs.Times.{indices_by}
use Rattle.lrc_protocol.specs.Pages.{Memory}

-- At this time the store's greatest indices are the time's entries; what was collected is covered by the time; and of each node
-- the stored intervals are exactly those above the collected time and up to this one, in rising order.
pub record StoresExactly (time : List ℕ) (memory : Memory) : Type 0 where
  pub last : memory.store.last ≡ time
  pub below : Covers time memory.collected
  pub stored : (q : ℕ) → indices_by (intervals_of memory.store) q
      ≡ range_with_len (entry memory.collected q + 1) (entry time q - entry memory.collected q)
