-- What the vectors of the detector know of the events before a position.
use Rattle.std.specs.Prelude.{◌≡◌, ◌≢◌, ℕ, ◌<◌, ◌≤◌, ◌⊎◌, List, [], Option, Some, None, Contains, slice_get, slice_index}
use Rattle.lrc_races_trace.specs.declared.event.Event.{Event}
use Rattle.lrc_races_trace.specs.declared.event.Operation.{Operation}
use Rattle.lrc_races_trace.specs.declared.event.Operation.TheVariants.{Acquire, Wait, Fork, Join, Arrive, Depart}
use Rattle.lrc_races_trace.specs.declared.event.Placed.{Placed}
use Rattle.lrc_races_trace.specs.Trace.{At, Accesses, Writes, given}
use Rattle.lrc_races_trace.specs.Cycles.{cycles_before}
use Rattle.lrc_races_trace.specs.Order.{Reaches}
use Rattle.lrc_races_detector.specs.declared.clocks.Clocks.{Clocks}
use Rattle.lrc_races_detector.specs.declared.barriers.Barrier.{Barrier}
use Rattle.lrc_races_detector.specs.declared.barriers.Barriers.{Barriers}
use Rattle.lrc_races_detector.specs.declared.variables.Last.{Last}
use Rattle.lrc_races_detector.specs.declared.variables.Variables.{Variables}
use Rattle.lrc_races_detector.specs.Clocks.{row}
use Rattle.lrc_races_detector.specs.Barriers.{current_of, cycle_of, open_of, closed_of, known_of}
use Rattle.lrc_races_detector.specs.Variables.{thread_of, lasts_of, IsAscending}

-- A vector gathers these positions: an event is one of them, or happens before one, exactly where its position is below
-- the entry of its thread.
pub record Gathers (events : List Event) (these : ℕ → Type 0) (known : List ℕ) : Type 0 where
  pub sound : (i : ℕ) (a : Event) → At events i a → i < slice_index known a.thread → (k : ℕ) × these k × Reaches events i k
  pub complete : (i k : ℕ) (a : Event) → At events i a → these k → Reaches events i k → i < slice_index known a.thread

-- the event at this position is of the thread, or forks it;
abbrev pub OfThread : List Event → ℕ → ℕ → Type 0
OfThread events u k = (a : Event) × At events k a × ((a.thread ≡ u) ⊎ (a.operation ≡ Fork u))

-- releases or posts the lock;
abbrev pub GivesLock : List Event → ℕ → ℕ → Type 0
GivesLock events l k = (a : Event) × At events k a × (given a.operation ≡ Some l)

-- arrives in the cycle of the barrier
abbrev pub ArrivesIn : List Event → ℕ → ℕ → ℕ → Type 0
ArrivesIn events x cycle k = (a : Event) × At events k a × (a.operation ≡ Arrive x) × ((cycles_before events x k).current ≡ cycle)

-- the positions before n that are so
abbrev pub Before : ℕ → (ℕ → Type 0) → ℕ → Type 0
Before n These k = (k < n) × These k

abbrev pub AreThreads : List Event → ℕ → Clocks → Type 0
AreThreads events n threads = (u : ℕ) → Gathers events (Before n (OfThread events u)) (row threads u)

abbrev pub AreLocks : List Event → ℕ → Clocks → Type 0
AreLocks events n locks = (l : ℕ) → Gathers events (Before n (GivesLock events l)) (row locks l)

-- what is kept of a barrier: its open cycle, and of each thread its cycle, where that is closed
pub record IsBarrier (events : List Event) (n x : ℕ) (barrier : Option Barrier) : Type 0 where
  pub current : current_of barrier ≡ (cycles_before events x n).current
  pub of : (thread : ℕ) → cycle_of barrier thread ≡ (cycles_before events x n).of thread
  pub arrived : Gathers events (Before n (ArrivesIn events x (current_of barrier))) (open_of barrier)
  pub closed : (thread cycle : ℕ) → cycle_of barrier thread ≡ Some cycle → cycle ≢ current_of barrier
      → Gathers events (Before n (ArrivesIn events x cycle)) (closed_of barrier thread)

abbrev pub AreBarriers : List Event → ℕ → Barriers → Type 0
AreBarriers events n barriers = (x : ℕ) → IsBarrier events n x (slice_get barriers.barriers.items x)

-- the thread of the event at this position has come to know of the event itself, and no other thread of anything
pub record IsReached (events : List Event) (n thread : ℕ) (threads : Clocks) : Type 0 where
  pub own : Gathers events (λ k. k ≡ n) (row threads thread)
  pub others : (u : ℕ) → (u ≡ thread → ⊥) → Gathers events (Before n (OfThread events u)) (row threads u)

-- what the event gets besides what its thread knows
abbrev pub Handed : List Event → ℕ → ℕ → Operation → ℕ → Type 0
Handed events n thread (Acquire l) k = Before n (GivesLock events l) k
Handed events n thread (Wait l) k = Before n (GivesLock events l) k
Handed events n thread (Join u) k = Before n (OfThread events u) k
Handed events n thread (Depart x) k = (cycle : ℕ) × ((cycles_before events x n).of thread ≡ Some cycle) × Before n (ArrivesIn events x cycle) k
Handed events n thread _ k = ⊥

-- the row that has it
abbrev pub handed : Clocks → Clocks → Barriers → ℕ → Operation → List ℕ
handed threads locks barriers thread (Acquire l) = row locks l
handed threads locks barriers thread (Wait l) = row locks l
handed threads locks barriers thread (Join u) = row threads u
handed threads locks barriers thread (Depart x) = known_of (slice_get barriers.barriers.items x) thread
handed threads locks barriers thread _ = []

-- the last position before n that is so, if there is one
pub record IsLastAt (events : List Event) (n : ℕ) (These : ℕ → Type 0) (placed : Placed) : Type 0 where
  pub before : placed.position < n
  pub at : At events placed.position placed.event
  pub is : These placed.position
  pub last : (k : ℕ) → k < n → These k → k ≤ placed.position

abbrev pub IsLastOf : List Event → ℕ → (ℕ → Type 0) → Option Placed → Type 0
IsLastOf events n These (Some placed) = IsLastAt events n These placed
IsLastOf events n These None = (k : ℕ) → k < n → These k → ⊥

-- the thread accesses the variable at this position, or writes it
abbrev pub AccessOf : List Event → ℕ → ℕ → ℕ → Type 0
AccessOf events v u k = (a : Event) × At events k a × (a.thread ≡ u) × Accesses a v

abbrev pub WriteOf : List Event → ℕ → ℕ → ℕ → Type 0
WriteOf events v u k = (a : Event) × At events k a × (a.thread ≡ u) × Writes a v

pub record IsLast (events : List Event) (n v : ℕ) (last : Last) : Type 0 where
  pub access : IsLastAt events n (AccessOf events v (thread_of last)) last.access
  pub write : IsLastOf events n (WriteOf events v (thread_of last)) last.write

-- a row has the last accesses of each thread that accesses the variable, and of no other
pub record IsRow (events : List Event) (n v : ℕ) (lasts : List Last) : Type 0 where
  pub ascending : IsAscending lasts
  pub sound : (last : Last) → Contains lasts last → IsLast events n v last
  pub complete : (u k : ℕ) → k < n → AccessOf events v u k → (last : Last) × Contains lasts last × (thread_of last ≡ u)

abbrev pub AreVariables : List Event → ℕ → Variables → Type 0
AreVariables events n variables = (v : ℕ) → IsRow events n v (lasts_of variables v)
