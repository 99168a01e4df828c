-- The writes that a node knows at a position, and what is kept of them.
use Rattle.std.specs.Prelude.{◌≡◌, ◌≢◌, ◌<◌, ◌≤◌, ◌⊎◌, ◌↔◌, ℕ, List, Option, None, Some, Contains, IsTrue, length, slice_index, slice_index_or}
use Rattle.std.specs.List.Sorted.{IsStrictlyIncreasing}
use Rattle.std.specs.BTreeMap.{BTreeMap, get}
use Rattle.std.specs.BTreeSet.{contains}
use Rattle.std.specs.Ordering.{nat_cmp}
use Rattle.lrc_trace.specs.declared.act.Act.{Act}
use Rattle.lrc_trace.specs.declared.act.Deed.{Deed}
use Rattle.lrc_trace.specs.declared.act.Deed.TheVariants.{Write}
use Rattle.lrc_trace.specs.Run.{Does, IsDone}
use Rattle.lrc_trace.specs.Order.{HappensBefore}
use Rattle.lrc_judge.specs.Adding.{Adds}
use Rattle.lrc_judge.specs.Order.{is_before}
use Rattle.lrc_judge.specs.declared.TheConstants.{NODES}
use Rattle.lrc_judge.specs.declared.order.Order.{Order}
use Rattle.lrc_judge_all.specs.declared.kept.Kept.{Kept}
use Rattle.lrc_judge_all.specs.declared.reader.Reader.{Reader}

-- the node writes at position k, to any word
pub record IsWriteOf (run : List Act) (node k : ℕ) : Type 0 where
  pub word : ℕ
  pub value : ℕ
  pub does : Does run k node (Write word value)

-- ---- what is kept of a word

-- one of these positions writes the value to the word
pub record IsValueOf (run : List Act) (known : List ℕ) (word value : ℕ) : Type 0 where
  pub k : ℕ
  pub there : Contains known k
  pub done : IsDone run k (Write word value)

-- any two of these positions that write the word are ordered
abbrev pub AreChained : List Act → List ℕ → ℕ → Type 0
AreChained run known word = (i k u v : ℕ) → Contains known i → IsDone run i (Write word u) → Contains known k → IsDone run k (Write word v)
    → i < k → HappensBefore run i k

-- this is kept of those of these positions that write the word: the last one, what it writes, whether they are ordered, and 0 and all
-- that they write
pub record IsKeptOf (run : List Act) (known : List ℕ) (word : ℕ) (kept : Kept) : Type 0 where
  pub there : Contains known kept.last
  pub done : IsDone run kept.last (Write word kept.latest)
  pub last : (k v : ℕ) → Contains known k → IsDone run k (Write word v) → k ≤ kept.last
  pub ordered : IsTrue kept.are_ordered ↔ AreChained run known word
  pub values : (value : ℕ) → IsTrue (contains nat_cmp kept.values value) ↔ ((value ≡ 0) ⊎ IsValueOf run known word value)

-- the same where nothing is kept, since none of these positions writes the word
abbrev pub IsKept : List Act → List ℕ → ℕ → Option Kept → Type 0
IsKept run known word None = (value : ℕ) → ¬ IsValueOf run known word value
IsKept run known word (Some kept) = IsKeptOf run known word kept

-- the map keeps this of each word
abbrev pub AreKept : List Act → List ℕ → BTreeMap ℕ Kept → Type 0
AreKept run known words = (word : ℕ) → IsKept run known word (get nat_cmp words word)

-- a position that is none of these, and happens before none of them
abbrev pub IsNewTo : List Act → List ℕ → ℕ → Type 0
IsNewTo run known position = (k : ℕ) → Contains known k → (k ≢ position) × ¬ HappensBefore run position k

-- ---- what a node knows

-- these are exactly the writes that happen before the position
abbrev pub AreKnownAt : List Act → ℕ → List ℕ → Type 0
AreKnownAt run position known = (k : ℕ) → Contains known k ↔ (((node : ℕ) × IsWriteOf run node k) × HappensBefore run k position)

-- the map keeps what is known at the position
abbrev pub Knows : List Act → ℕ → BTreeMap ℕ Kept → Type 0
Knows run position words = (known : List ℕ) × AreKnownAt run position known × AreKept run known words

-- a write of the node, from this position on and before that one
pub record IsPassed (run : List Act) (node from end k : ℕ) : Type 0 where
  pub from_there : from ≤ k
  pub earlier : k < end
  pub write : IsWriteOf run node k

-- the node's writes from a position on, up to the first that does not happen before this position, are added
pub record IsGathered (order : Order) (run : List Act) (node position from end : ℕ) (before after : List ℕ) : Type 0 where
  pub within : end ≤ length run
  pub forward : from ≤ end
  pub adds : Adds before after (IsPassed run node from end)
  pub known : (k : ℕ) → IsPassed run node from end k → IsTrue (is_before order k position)
  pub stops : end < length run → IsWriteOf run node end × ¬ IsTrue (is_before order end position)

-- the batch has the writes that are passed on the way to these ends, ascending
pub record IsBatch (order : Order) (run : List Act) (position : ℕ) (from ends batch : List ℕ) : Type 0 where
  pub ascending : IsStrictlyIncreasing batch
  pub exact : (k : ℕ) → Contains batch k ↔ ((node : ℕ) × (node < NODES) × IsPassed run node (slice_index from node) (slice_index ends node) k)
  pub known : (k : ℕ) → Contains batch k → IsTrue (is_before order k position)
  pub within : (node : ℕ) → node < NODES → slice_index ends node ≤ length run
  pub forward : (node : ℕ) → node < NODES → slice_index from node ≤ slice_index ends node
  pub stops : (node : ℕ) → node < NODES → slice_index ends node < length run
      → IsWriteOf run node (slice_index ends node) × ¬ IsTrue (is_before order (slice_index ends node) position)

-- what a node has learned before position n: exactly the writes of each node before a position, and with each all that happen before
-- it; all of them happen before whatever the node does from n on
pub record IsReader (run : List Act) (node n : ℕ) (reader : Reader) : Type 0 where
  pub known : List ℕ
  pub within : (other : ℕ) → other < NODES → slice_index reader.next other ≤ length run
  pub exact : (k : ℕ) → Contains known k ↔ ((other : ℕ) × (other < NODES) × IsPassed run other 0 (slice_index reader.next other) k)
  pub closed : (i k other : ℕ) → Contains known k → HappensBefore run i k → IsWriteOf run other i → Contains known i
  pub ahead : (k j : ℕ) (deed : Deed) → Contains known k → n ≤ j → Does run j node deed → HappensBefore run k j
  pub words : AreKept run known reader.words

-- each node has learned so much before position n
abbrev pub AreReaders : List Act → ℕ → List Reader → Type 0
AreReaders run n readers = (node : ℕ) (d : Reader) → node < length readers → IsReader run node n (slice_index_or readers node d)

-- this is kept of the word at the position
abbrev pub IsKeptAt : List Act → (position word : ℕ) → Option Kept → Type 0
IsKeptAt run position word kept = (known : List ℕ) × AreKnownAt run position known × IsKept run known word kept
