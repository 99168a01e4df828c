-- The ranges of what a node's memory has: with so many nodes and pages, and pages of so many words.
use Rattle.std.specs.Prelude.{◌≡◌, ℕ, ◌<◌, ◌==◌, true, false, Option, Some, None, List, length, All}
use Rattle.lrc_barrier.specs.Barrier.{ManagerRecord}
use Rattle.lrc_store.specs.Interval.{IntervalRecord}
use Rattle.lrc_store.specs.Store.{intervals_of}
use Rattle.lrc_protocol.specs.Pages.{Copy, valid, written, invalid, absent, Memory}
use Rattle.lrc_protocol.specs.Node.{Wait, upkeep, discard}

-- an interval of one of the nodes, with a stamp of as many entries, that names some of the pages
pub record InRange (nodes pages : ℕ) (i : IntervalRecord) : Type 0 where
  pub node : i.node < nodes
  pub stamp : length i.stamp ≡ nodes
  pub named : All (λ page. page < pages) i.pages

-- a copy, a base copy and a keeper for each page, each keeper one of the nodes; a collected time with an entry for each node;
-- and a store for as many nodes and pages, with such intervals
pub record HasRanges (nodes pages : ℕ) (memory : Memory) : Type 0 where
  pub copies : length memory.copies ≡ pages
  pub bases : length memory.bases ≡ pages
  pub keepers : length memory.keepers ≡ pages
  pub keeping : All (λ keeper. keeper < nodes) memory.keepers
  pub collected : length memory.collected ≡ nodes
  pub store_pages : memory.store.pages ≡ pages
  pub store_nodes : length memory.store.last ≡ nodes
  pub intervals : All (InRange nodes pages) (intervals_of memory.store)

-- the values and the twin of a copy are a page long, and a remembered time has an entry for each node
abbrev pub IsWholeCopy : ℕ → ℕ → Copy → Type 0
IsWholeCopy nodes words (valid values) = length values ≡ words
IsWholeCopy nodes words (written values twin) = (length values ≡ words) × (length twin ≡ words)
IsWholeCopy nodes words (invalid values since) = (length values ≡ words) × (length since ≡ nodes)
IsWholeCopy nodes words absent = Unit {0}

-- a base copy that is kept is a page long
abbrev pub IsWholeBase : ℕ → Option (List ℕ) → Type 0
IsWholeBase words None = Unit {0}
IsWholeBase words (Some values) = length values ≡ words

-- the time of a collection under way is this one
abbrev pub CollectsAt : List ℕ → Wait → Type 0
CollectsAt time (upkeep collection needs) = collection.time ≡ time
CollectsAt time (discard collection) = collection.time ≡ time
CollectsAt time _ = Unit {0}

-- the manager of barriers is at node 0 alone, and counts the nodes
abbrev pub HasManager : ℕ → ℕ → Option ManagerRecord → Type 0
HasManager me nodes None = (me == 0) ≡ false
HasManager me nodes (Some manager) = ((me == 0) ≡ true) × (length manager.last ≡ nodes)
