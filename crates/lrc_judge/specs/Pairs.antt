-- The racing pairs of a run.
use Rattle.std.specs.Prelude.{◌≡◌, ◌≢◌, ℕ, ◌<◌, ◌↔◌, List, Contains}
use Rattle.std.specs.Ordering.{nat_cmp, ordering_then}
use Rattle.std.specs.List.Sorted.{IsStrictlySortedBy}
use Rattle.std.specs.declared.cmp.Ordering.{Ordering}
use Rattle.lrc_trace.specs.declared.act.Act.{Act}
use Rattle.lrc_trace.specs.declared.act.Deed.{Deed}
use Rattle.lrc_trace.specs.declared.act.Deed.TheVariants.{Read, Write}
use Rattle.lrc_trace.specs.Conflict.{Races}
use Rattle.lrc_judge.specs.declared.TheConstants.{NODES}
use Rattle.lrc_judge.specs.declared.lanes.Entry.{Entry}
use Rattle.lrc_judge.specs.declared.lanes.Lane.{Lane}
use Rattle.lrc_judge.specs.declared.lanes.Pair.{Pair}
use Rattle.lrc_judge.specs.declared.order.Order.{Order}
use Rattle.lrc_judge.specs.declared.pairs.Conflicts.{Conflicts}
use Rattle.lrc_judge.specs.declared.entries.Told.TheVariants.{EachAccess, EachWrite}
use Rattle.lrc_judge.specs.Order.{IsOrderOf}
use Rattle.lrc_judge.specs.Lanes.{AreEntries, AreSearchable, IsEntry, IsOfLane}

-- by the later position, then by the earlier
abbrev pub pair_cmp : Pair → Pair → Ordering
pair_cmp a b = ordering_then (nat_cmp a.later b.later) (nat_cmp a.earlier b.earlier)

-- the list has exactly the racing pairs of the run, ascending, each once
pub record AreRacingPairs (run : List Act) (pairs : List Pair) : Type 0 where
  pub ascending : IsStrictlySortedBy pair_cmp pairs
  pub exact : (pair : Pair) → Contains pairs pair ↔ Races run pair.earlier pair.later

-- the lane of a node's accesses to a word
abbrev pub word_lane : ℕ → ℕ → Lane
word_lane word node = record { word = word; value = 0; node = node }

-- the pair is the position and an earlier one of another node's lane below this one, which is not before it
pub record IsOfOthers (among : List Entry) (order : Order) (word node below position : ℕ) (pair : Pair) : Type 0 where
  pub other : ℕ
  pub in_range : other < below
  pub apart : other ≢ node
  pub of : IsOfLane among order (word_lane word other) position pair

-- the pair is the position of one of the first entries and an earlier one of another node's lane among the second
pub record IsCrossing (from among : List Entry) (order : Order) (pair : Pair) : Type 0 where
  pub e : Entry
  pub there : Contains from e
  pub others : IsOfOthers among order e.lane.word e.lane.node NODES e.position pair

-- ---- the pairs of one later position

-- the list has exactly the racing pairs of the run whose later position is this, ascending, each once
pub record ArePairsWithLater (run : List Act) (later : ℕ) (pairs : List Pair) : Type 0 where
  pub ascending : IsStrictlySortedBy pair_cmp pairs
  pub exact : (pair : Pair) → Contains pairs pair ↔ ((pair.later ≡ later) × Races run pair.earlier pair.later)

-- what is kept is the order of the run, and its accesses and writes
pub record AreConflictsOf (run : List Act) (conflicts : Conflicts) : Type 0 where
  pub order : IsOrderOf run conflicts.order
  pub accesses : AreEntries (IsEntry run EachAccess) conflicts.accesses.items
  pub writes : AreEntries (IsEntry run EachWrite) conflicts.writes.items

-- of both lists those of a lane before a position can be found
pub record AreSearchableConflicts (conflicts : Conflicts) : Type 0 where
  pub accesses : AreSearchable conflicts.order conflicts.accesses.items
  pub writes : AreSearchable conflicts.order conflicts.writes.items

-- the pair is this position, at which a node does this deed, and an earlier one of another node that conflicts and is not before it:
-- of a read a write, of a write any access
abbrev pub IsPairOfAct : Conflicts → ℕ → Deed → ℕ → Pair → Type 0
IsPairOfAct conflicts node (Read word value) position = IsOfOthers conflicts.writes.items conflicts.order word node NODES position
IsPairOfAct conflicts node (Write word value) position = IsOfOthers conflicts.accesses.items conflicts.order word node NODES position
IsPairOfAct conflicts node _ position = λ pair. ⊥
