-- Accesses by lanes: those of one node to one word, or to one word with one value.
use Rattle.std.specs.Prelude.{◌≡◌, ℕ, ◌<◌, ◌≤◌, ◌↔◌, Bool, true, false, IsTrue, List, Option, Some, None, Contains}
use Rattle.std.specs.Ordering.{nat_cmp, ordering_then}
use Rattle.std.specs.List.Sorted.{IsStrictlySortedBy, IsPartitionedBy}
use Rattle.std.specs.declared.cmp.Ordering.{Ordering}
use Rattle.std.specs.declared.cmp.Ordering.TheVariants.{Less, Equal, Greater}
use Rattle.lrc_trace.specs.declared.act.Act.{Act}
use Rattle.lrc_trace.specs.declared.act.Deed.{Deed}
use Rattle.lrc_trace.specs.declared.act.Deed.TheVariants.{Read, Write}
use Rattle.lrc_trace.specs.Run.{Does}
use Rattle.lrc_judge.specs.declared.lanes.Lane.{Lane}
use Rattle.lrc_judge.specs.declared.lanes.Entry.{Entry}
use Rattle.lrc_judge.specs.declared.order.Order.{Order}
use Rattle.lrc_judge.specs.declared.lanes.Pair.{Pair}
use Rattle.lrc_judge.specs.declared.entries.Told.{Told}
use Rattle.lrc_judge.specs.declared.entries.Told.TheVariants.{EachAccess, EachValue}
use Rattle.lrc_judge.specs.Order.{is_before}

-- by words, then by values, then by nodes
abbrev pub lane_cmp : Lane → Lane → Ordering
lane_cmp a b = ordering_then (nat_cmp a.word b.word) (ordering_then (nat_cmp a.value b.value) (nat_cmp a.node b.node))

-- by lanes, then by positions
abbrev pub entry_cmp : Entry → Entry → Ordering
entry_cmp a b = ordering_then (lane_cmp a.lane b.lane) (nat_cmp a.position b.position)

-- the access of the lane at the position
abbrev pub entry : Lane → ℕ → Entry
entry lane position = record { lane = lane; position = position }

-- the entries are exactly these, in order
pub record AreEntries (these : Lane → ℕ → Type 0) (entries : List Entry) : Type 0 where
  pub in_order : IsStrictlySortedBy entry_cmp entries
  pub exact : (lane : Lane) (i : ℕ) → Contains entries (entry lane i) ↔ these lane i

-- whether what compares so with a lane is in an earlier one, or in this one where the test says so
abbrev pub is_earlier_or : Ordering → Bool → Bool
is_earlier_or Less test = true
is_earlier_or Equal test = test
is_earlier_or Greater test = false

-- whether the entry is of an earlier lane, or of this one and before the position
abbrev pub is_behind : Order → Lane → ℕ → Entry → Bool
is_behind order lane position e = is_earlier_or (lane_cmp e.lane lane) (is_before order e.position position)

-- the entries are in order, and of a lane those before a position stand first
pub record AreSearchable (order : Order) (entries : List Entry) : Type 0 where
  pub in_order : IsStrictlySortedBy entry_cmp entries
  pub first : (lane : Lane) (position : ℕ) → IsPartitionedBy (is_behind order lane position) entries

-- the entry of the lane at i is before the position, and none of the lane that is so is later
pub record IsLastOfLane (entries : List Entry) (order : Order) (lane : Lane) (position i : ℕ) : Type 0 where
  pub there : Contains entries (entry lane i)
  pub before : IsTrue (is_before order i position)
  pub last : (k : ℕ) → Contains entries (entry lane k) → IsTrue (is_before order k position) → k ≤ i

-- the pair is the position and an earlier one of the lane, which is not before it
pub record IsOfLane (entries : List Entry) (order : Order) (lane : Lane) (position : ℕ) (pair : Pair) : Type 0 where
  pub later : pair.later ≡ position
  pub there : Contains entries (entry lane pair.earlier)
  pub earlier : pair.earlier < position
  pub unordered : is_before order pair.earlier position ≡ false

-- what tells the lanes of a word and node apart
abbrev pub told_value : Told → ℕ → ℕ
told_value EachValue value = value
told_value _ value = 0

-- the lane of a read, which is listed among the accesses alone
abbrev pub read_lane : Told → ℕ → ℕ → Option Lane
read_lane EachAccess node word = Some (record { word = word; value = 0; node = node })
read_lane _ node word = None

-- the lane of an act of this node: every access of a word, every write, or every write of a value
abbrev pub lane_of : Told → ℕ → Deed → Option Lane
lane_of told node (Read word value) = read_lane told node word
lane_of told node (Write word value) = Some (record { word = word; value = told_value told value; node = node })
lane_of told node _ = None

-- at position i of the run stands an act of this lane
pub record IsEntry (run : List Act) (told : Told) (lane : Lane) (i : ℕ) : Type 0 where
  pub node : ℕ
  pub deed : Deed
  pub does : Does run i node deed
  pub lane_is : lane_of told node deed ≡ Some lane
