-- What the messages say, as contracts see them: numbers and lists. What the types keep of their ranges and orders.
use Rattle.std.specs.Prelude.{◌≡◌, ℕ, ◌-◌, ◌<◌, ◌≤◌, Bool, List, length, Option, slice_get, All, AllPairs}
use Rattle.std.specs.List.Sorted.{IsStrictlyIncreasing}
use Rattle.lrc_page.specs.declared.TheConstants.{MOST_PAGES, MOST_PAGE_WORDS}
use Rattle.lrc_page.specs.declared.changes.Change.{Change}
use Rattle.lrc_page.specs.Changes.{IsAscending}
use Rattle.lrc_store.specs.Interval.{IntervalRecord}
use Rattle.lrc_envelope.specs.declared.limits.TheConstants.{MOST_LOCKS, MOST_NODES}

-- ---- parts of several kinds

-- what a node tells of what it knows: its time, and intervals
pub record NewsRecord : Type 0 where
  pub time : List ℕ
  pub intervals : List IntervalRecord

-- the stamps beside a time of so many nodes have as many entries
abbrev pub GoWith : ℕ → List IntervalRecord → Type 0
GoWith nodes intervals = All (λ interval. length interval.stamp ≡ nodes) intervals

-- indices begin at 1 and ascend
pub record AreIndices (indices : List ℕ) : Type 0 where
  pub begun : All (λ index. 1 ≤ index) indices
  pub ascending : IsStrictlyIncreasing indices

-- the greatest index
abbrev pub last_index : List ℕ → Option ℕ
last_index indices = slice_get indices (length indices - 1)

-- what the interval of this index changed in a page
pub record IndexedChangesRecord : Type 0 where
  pub index : ℕ
  pub changes : List Change

-- indices begin at 1; each offset is named once, in order
pub record IsIndexedChanges (part : IndexedChangesRecord) : Type 0 where
  pub begun : 1 ≤ part.index
  pub ascending : IsAscending part.changes
  pub in_range : All (λ change. change.offset < MOST_PAGE_WORDS) part.changes

-- parts ascend by index
abbrev pub AreParts : List IndexedChangesRecord → Type 0
AreParts parts = AllPairs (λ a b. a.index < b.index) parts

-- the part of the greatest index
abbrev pub last_part : List IndexedChangesRecord → Option IndexedChangesRecord
last_part parts = slice_get parts (length parts - 1)

-- ---- the kinds

pub record LockRequestRecord : Type 0 where
  pub lock : ℕ
  pub time : List ℕ

pub record LockForwardRecord : Type 0 where
  pub lock : ℕ
  pub asker : ℕ
  pub time : List ℕ

pub record LockGrantRecord : Type 0 where
  pub lock : ℕ
  pub time : List ℕ
  pub intervals : List IntervalRecord

pub record ArriveRecord : Type 0 where
  pub episode : ℕ
  pub ask : Bool
  pub time : List ℕ
  pub intervals : List IntervalRecord

pub record DepartRecord : Type 0 where
  pub episode : ℕ
  pub collect : Bool
  pub time : List ℕ
  pub intervals : List IntervalRecord

pub record ChangesRequestRecord : Type 0 where
  pub page : ℕ
  pub indices : List ℕ

pub record ChangesReplyRecord : Type 0 where
  pub page : ℕ
  pub parts : List IndexedChangesRecord

pub record PageReplyRecord : Type 0 where
  pub page : ℕ
  pub values : List ℕ

-- ---- what the types keep beside what their fields keep

pub record IsLockForward (m : LockForwardRecord) : Type 0 where
  pub lock : m.lock < MOST_LOCKS
  pub asker : m.asker < MOST_NODES

-- at least one index
pub record IsChangesRequest (m : ChangesRequestRecord) : Type 0 where
  pub page : m.page < MOST_PAGES
  pub some : 1 ≤ length m.indices

-- at least one interval
pub record IsChangesReply (m : ChangesReplyRecord) : Type 0 where
  pub page : m.page < MOST_PAGES
  pub some : 1 ≤ length m.parts
