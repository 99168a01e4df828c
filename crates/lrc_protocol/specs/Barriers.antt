-- Barriers and collections. The manager is a part of node 0. It keeps what arrives by itself: node 0's time and memory learn of
-- it by its own departure alone. A collection drops what all nodes know (Amza et al. 1996).
use Rattle.std.specs.Prelude.{[], ℕ, ◌&&◌, ◌+◌, ◌==◌, ◌∷◌, filter, filter_map, fold, if◌then◌else◌, length, List, map, min}
use Rattle.std.specs.Prelude.{None, Option, option_map, slice_index, slice_index_or, slice_set, Some, unwrap_or}
use Rattle.std.specs.List.{enumerate_from, range_with_len}
use Rattle.lrc_store.specs.Store.{discarded, intervals_of, StoreRecord}
use Rattle.lrc_envelope.specs.Records.{ArriveRecord}
use Rattle.lrc_barrier.specs.Barrier.{first_manager, ManagerRecord}
use Rattle.lrc_barrier.specs.declared.arrival.Arrival.{Arrival}
use Rattle.lrc_protocol.specs.Times.{is_named}
use Rattle.lrc_protocol.specs.Pages.{copy_at, dropped, keeper_at, Memory, repaired, Need, values_of}

-- ---- barriers

-- how often the node has arrived; the index of its newest interval that it sent with an arrival; on node 0 the manager
pub record Barrier : Type 0 where
  pub episode : ℕ
  pub sent : ℕ
  pub manager : Option ManagerRecord

-- at the start nobody has arrived
abbrev pub fresh_barrier : ℕ → ℕ → Barrier
fresh_barrier me nodes =
    record { episode = 0; sent = 0; manager = if me == 0 then Some (first_manager nodes) else None }

-- the node arrives once more, with its intervals up to this index
abbrev pub with_arrive : ℕ → Barrier → Barrier
with_arrive index barrier = record barrier { episode = barrier.episode + 1; sent = index }

-- the same with another manager
abbrev pub with_manager : ManagerRecord → Barrier → Barrier
with_manager manager barrier = record barrier { manager = Some manager }

-- the index of a node's newest interval that has come to the manager
abbrev pub last_arrived : Barrier → ℕ → ℕ
last_arrived barrier from = unwrap_or (option_map (λ manager. slice_index manager.last from) barrier.manager) 0

-- what an Arrive says
abbrev pub arrival_in : ArriveRecord → Arrival
arrival_in m = record { episode = m.episode; ask = m.ask; time = m.time; intervals = m.intervals }

-- ---- collections

-- a collection under way at a node: the barrier's time, and the pages of which the node keeps a base copy anew
pub record Collection : Type 0 where
  pub time : List ℕ
  pub kept : List ℕ

-- the least of some numbers
abbrev pub least : List ℕ → Option ℕ
least [] = None
least (x ∷ xs) = Some (unwrap_or (option_map (min x) (least xs)) x)

-- the nodes with a stored interval that names the page
abbrev pub namers_of : StoreRecord → ℕ → List ℕ
namers_of store page = filter_map (λ i. if is_named (i ∷ []) page then Some i.node else None) (intervals_of store)

-- the memory with the keepers after a collection: the lowest node that named the page since the last one, and else the
-- one before. The store has just the intervals since the last collection, and it is the same at all nodes, which have just taken
-- their departures: so all name the same keepers.
abbrev pub with_keepers : Memory → Memory
with_keepers memory = record memory {
  keepers = map (λ place. unwrap_or (least (namers_of memory.store place.0)) place.1) (enumerate_from 0 memory.keepers);
}

-- the pages of which a node has to keep a base copy anew: those named since the last collection that it keeps
abbrev pub kept_pages : ℕ → Memory → List ℕ
kept_pages me memory =
    filter (λ page. is_named (intervals_of memory.store) page && (keeper_at memory page == me)) (range_with_len 0 (length memory.keepers))

-- the memory with a base copy of a page, as its copy is now
abbrev pub with_base : Memory → ℕ → Memory
with_base memory page = record memory { bases = slice_set memory.bases page (Some (values_of (copy_at memory page))) }

-- the base copy of a page, if one is kept here
abbrev pub base_at : Memory → ℕ → Option (List ℕ)
base_at memory page = slice_index_or memory.bases page None

-- the memory once these pages are repaired, and then base copies kept of those
abbrev pub clean_memory : List Need → List ℕ → Memory → Memory
clean_memory needs kept memory = fold with_base (fold repaired memory needs) kept

-- the memory once all up to this time is collected: no interval that it covers is left, no base copy of a page that
-- another node keeps, and no invalid copy
abbrev pub after_collection : ℕ → List ℕ → Memory → Memory
after_collection me time memory = record memory {
  store = discarded memory.store time;
  copies = map dropped memory.copies;
  bases = map (λ place. if keeper_at memory place.0 == me then place.1 else None) (enumerate_from 0 memory.bases);
  collected = time;
}
