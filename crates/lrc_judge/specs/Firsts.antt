-- The intervals of acts, and of the accesses of a lane the first of each interval.
use Rattle.std.specs.Prelude.{◌≡◌, ℕ, ◌+◌, ◌<◌, ◌≤◌, ◌↔◌, List, Some, Contains, length, slice_get, slice_index}
use Rattle.std.specs.List.Sorted.{IsStrictlySortedBy}
use Rattle.lrc_trace.specs.declared.act.Act.{Act}
use Rattle.lrc_trace.specs.declared.act.Deed.{Deed}
use Rattle.lrc_trace.specs.Run.{Does}
use Rattle.lrc_trace.specs.Interval.{interval_at}
use Rattle.lrc_judge.specs.declared.lanes.Entry.{Entry}
use Rattle.lrc_judge.specs.declared.entries.Told.{Told}
use Rattle.lrc_judge.specs.declared.lanes.Lane.{Lane}
use Rattle.lrc_judge.specs.Lanes.{IsEntry, entry, entry_cmp}

-- the interval of each position before n, of the node that acts there
pub record AreIntervals (run : List Act) (n : ℕ) (intervals : List ℕ) : Type 0 where
  pub long : length intervals ≡ n
  pub each : (k node : ℕ) (d : Deed) → k < n → Does run k node d → slice_index intervals k ≡ interval_at run node k

-- the entries are of one lane and of positions with one interval
pub record AreAlike (intervals : List ℕ) (a b : Entry) : Type 0 where
  pub lane : a.lane ≡ b.lane
  pub interval : slice_index intervals a.position ≡ slice_index intervals b.position

-- the entry stands at this index, and is not alike to the one before
pub record IsFirstAt (entries : List Entry) (intervals : List ℕ) (k : ℕ) (e : Entry) : Type 0 where
  pub is : slice_get entries k ≡ Some e
  pub fresh : (m : ℕ) (a : Entry) → m + 1 ≡ k → slice_get entries m ≡ Some a → ¬ AreAlike intervals a e

-- the list has exactly these, in order
pub record AreFirsts (entries : List Entry) (intervals : List ℕ) (firsts : List Entry) : Type 0 where
  pub in_order : IsStrictlySortedBy entry_cmp firsts
  pub exact : (e : Entry) → Contains firsts e ↔ ((k : ℕ) × IsFirstAt entries intervals k e)

-- the entries are of the run, and of each lane and interval in which one is there is one that is not later
pub record AreFirstEntries (run : List Act) (told : Told) (intervals : List ℕ) (firsts : List Entry) : Type 0 where
  pub in_order : IsStrictlySortedBy entry_cmp firsts
  pub sound : (lane : Lane) (i : ℕ) → Contains firsts (entry lane i) → IsEntry run told lane i
  pub complete : (lane : Lane) (i : ℕ) → IsEntry run told lane i
      → (k : ℕ) × Contains firsts (entry lane k) × (k ≤ i) × (slice_index intervals k ≡ slice_index intervals i)
