-- What is kept of a barrier, and what changes of it.
use Rattle.std.specs.Prelude.{◌≡◌, ◌≢◌, ℕ, ◌+◌, ◌<◌, ◌≤◌, ◌⊎◌, ◌==◌, if◌then◌else◌, List, [], Option, Some, None, max, slice_get, slice_index}
use Rattle.std.specs.declared.alloc.Global.{Global}
use Rattle.std.specs.declared.rc.Rc.{Rc}
use Rattle.lrc_races_detector.specs.declared.barriers.Barrier.{Barrier}
use Rattle.lrc_races_detector.specs.declared.vectors.Vector.{Vector}
use Rattle.lrc_races_detector.specs.Vectors.{held}

-- the number of the open cycle; of a barrier that is not kept it is the first
abbrev pub current_of : Option Barrier → ℕ
current_of (Some barrier) = barrier.current
current_of None = 0

-- the cycle of a thread, in a list
abbrev pub cycle_at : Option (Option ℕ) → Option ℕ
cycle_at (Some cycle) = cycle
cycle_at None = None

-- the cycle of a thread's last arrive
abbrev pub cycle_of : Option Barrier → ℕ → Option ℕ
cycle_of (Some barrier) thread = cycle_at (slice_get barrier.of.items thread)
cycle_of None thread = None

-- what the arrives of the open cycle know
abbrev pub open_of : Option Barrier → List ℕ
open_of (Some barrier) = held barrier.arrived
open_of None = []

-- what a thread shares with others, if it does
abbrev pub shared_at : Option (Option (Rc Vector Global)) → List ℕ
shared_at (Some (Some known)) = held known.value
shared_at (Some None) = []
shared_at None = []

-- what those of a thread's cycle know, where it is closed
abbrev pub closed_of : Option Barrier → ℕ → List ℕ
closed_of (Some barrier) thread = shared_at (slice_get barrier.closed.items thread)
closed_of None thread = []

-- what a depart of the thread comes to know, whose last arrive is of this cycle
abbrev pub known_by : Option Barrier → ℕ → Option ℕ → List ℕ
known_by barrier thread (Some cycle) = if cycle == current_of barrier then open_of barrier else closed_of barrier thread
known_by barrier thread None = []

abbrev pub known_of : Option Barrier → ℕ → List ℕ
known_of barrier thread = known_by barrier thread (cycle_of barrier thread)

-- nothing differs that matters
pub record SameBarrier (one other : Option Barrier) : Type 0 where
  pub current : current_of one ≡ current_of other
  pub arrived : open_of one ≡ open_of other
  pub of : (thread : ℕ) → cycle_of one thread ≡ cycle_of other thread
  pub closed : (thread : ℕ) → closed_of one thread ≡ closed_of other thread

-- the thread is of this cycle, and all others are of the same as before
pub record IsSet (before after : List (Option ℕ)) (thread cycle : ℕ) : Type 0 where
  pub here : cycle_at (slice_get after thread) ≡ Some cycle
  pub others : (other : ℕ) → other ≢ thread → cycle_at (slice_get after other) ≡ cycle_at (slice_get before other)

-- the thread shares this, and all others share what they did
pub record IsShared (before after : List (Option (Rc Vector Global))) (thread : ℕ) (known : List ℕ) : Type 0 where
  pub here : shared_at (slice_get after thread) ≡ known
  pub others : (other : ℕ) → other ≢ thread → shared_at (slice_get after other) ≡ shared_at (slice_get before other)

-- Of the threads below this one, those of the open cycle share what its arrives know; all others share what they did.
pub record IsKeptBelow (count : ℕ) (before after : List (Option (Rc Vector Global))) (of : List (Option ℕ)) (current : ℕ) (known : List ℕ) : Type 0 where
  pub here : (thread : ℕ) → thread < count → cycle_at (slice_get of thread) ≡ Some current → shared_at (slice_get after thread) ≡ known
  pub others : (thread : ℕ) → cycle_at (slice_get of thread) ≢ Some current → shared_at (slice_get after thread) ≡ shared_at (slice_get before thread)
  pub above : (thread : ℕ) → count ≤ thread → shared_at (slice_get after thread) ≡ shared_at (slice_get before thread)

-- a thread that knows so much has arrived
pub record IsArrived (before after : Option Barrier) (thread : ℕ) (known : List ℕ) : Type 0 where
  pub current : current_of after ≡ current_of before
  pub here : cycle_of after thread ≡ Some (current_of before)
  pub others : (other : ℕ) → other ≢ thread → cycle_of after other ≡ cycle_of before other
  pub joined : (p : ℕ) → slice_index (open_of after) p ≡ max (slice_index (open_of before) p) (slice_index known p)
  pub closed : (other : ℕ) → closed_of after other ≡ closed_of before other

-- the open cycle is closed, and the next is open
pub record IsClosed (before after : Option Barrier) : Type 0 where
  pub current : current_of after ≡ current_of before + 1
  pub arrived : open_of after ≡ []
  pub of : (thread : ℕ) → cycle_of after thread ≡ cycle_of before thread
  pub here : (thread : ℕ) → cycle_of before thread ≡ Some (current_of before) → closed_of after thread ≡ open_of before
  pub others : (thread : ℕ) → cycle_of before thread ≢ Some (current_of before) → closed_of after thread ≡ closed_of before thread

-- a thread has departed: of the open cycle, or of another or none
abbrev pub IsDeparted : Option Barrier → Option Barrier → ℕ → Type 0
IsDeparted before after thread = ((cycle_of before thread ≡ Some (current_of before)) × IsClosed before after)
    ⊎ ((cycle_of before thread ≢ Some (current_of before)) × SameBarrier after before)
