-- What is well formed: that every event is one that a program gives.
use Rattle.std.specs.Prelude.{◌≡◌, ◌≢◌, ℕ, zero, suc, ◌+◌, ◌-◌, ◌<◌, ◌≤◌, ◌⊎◌, ◌==◌, if◌then◌else◌, List, Option, Some, None, slice_get}
use Rattle.lrc_races_trace.specs.declared.event.Event.{Event}
use Rattle.lrc_races_trace.specs.declared.event.Operation.{Operation}
use Rattle.lrc_races_trace.specs.declared.event.Operation.TheVariants.{Acquire, Release, Fork, Join, Arrive, Depart}
use Rattle.lrc_races_trace.specs.declared.fault.Fault.{Fault}
use Rattle.lrc_races_trace.specs.declared.fault.Holder.{Holder}
use Rattle.lrc_races_trace.specs.declared.fault.Reason.{Reason}
use Rattle.lrc_races_trace.specs.declared.fault.Reason.TheVariants.{Joined, Waits, NotArrived, Held, NotHeld, Known}
use Rattle.lrc_races_trace.specs.Trace.{At}

-- the first event before position n that is so, and the last
pub record IsFirstBefore (events : List Event) (n : ℕ) (These : Event → Type 0) (event : Event) : Type 0 where
  pub position : ℕ
  pub before : position < n
  pub at : At events position event
  pub is : These event
  pub first : (k : ℕ) (other : Event) → k < n → At events k other → These other → position ≤ k

pub record IsLastBefore (events : List Event) (n : ℕ) (These : Event → Type 0) (event : Event) : Type 0 where
  pub position : ℕ
  pub before : position < n
  pub at : At events position event
  pub is : These event
  pub last : (k : ℕ) (other : Event) → k < n → At events k other → These other → k ≤ position

-- the event is one of this thread at this barrier
abbrev pub IsAtBarrier : ℕ → ℕ → Event → Type 0
IsAtBarrier thread barrier event = (event.thread ≡ thread) × ((event.operation ≡ Arrive barrier) ⊎ (event.operation ≡ Depart barrier))

-- The thread waits at the barrier: the last of its events there is this arrive.
pub record WaitsAt (events : List Event) (n thread barrier : ℕ) (arrive : Event) : Type 0 where
  pub last : IsLastBefore events n (IsAtBarrier thread barrier) arrive
  pub arrives : arrive.operation ≡ Arrive barrier

-- an acquire: of a lock that nobody holds, or that the thread holds, or that another holds
abbrev pub after_acquire : Event → Option Holder → Option Holder
after_acquire event None = Some (record { thread = event.thread; depth = 1; line = event.line })
after_acquire event (Some holder) = Some (if holder.thread == event.thread then record holder { depth = holder.depth + 1 } else holder)

-- a release, likewise
abbrev pub after_release : Event → Option Holder → Option Holder
after_release event None = None
after_release event (Some holder) = if holder.thread == event.thread
    then (if holder.depth == 1 then None else Some (record holder { depth = holder.depth - 1 }))
    else Some holder

abbrev pub held_after_operation : ℕ → Event → Operation → Option Holder → Option Holder
held_after_operation lock event (Acquire other) holder = if other == lock then after_acquire event holder else holder
held_after_operation lock event (Release other) holder = if other == lock then after_release event holder else holder
held_after_operation lock event _ holder = holder

abbrev pub held_after_event : ℕ → Option Event → Option Holder → Option Holder
held_after_event lock (Some event) holder = held_after_operation lock event event.operation holder
held_after_event lock None holder = holder

-- who holds the lock before this position
unfoldable pub holder_before : List Event → ℕ → ℕ → Option Holder
holder_before events lock zero = None
holder_before events lock (suc position) = held_after_event lock (slice_get events position) (holder_before events lock position)

-- the holder is the thread
abbrev pub IsHeldBy : Option Holder → ℕ → Type 0
IsHeldBy (Some holder) thread = holder.thread ≡ thread
IsHeldBy None thread = ⊥

-- the event is of the thread, or forks it
abbrev pub Knows : ℕ → Event → Type 0
Knows thread event = (event.thread ≡ thread) ⊎ (event.operation ≡ Fork thread)

-- The first event by which the thread is known to a fork at this position: an earlier one that is of it or forks it, or else
-- the fork, where its own thread is the one.
abbrev pub IsFirstKnown : List Event → ℕ → Event → ℕ → Event → Type 0
IsFirstKnown events n fork thread first = IsFirstBefore events n (Knows thread) first
    ⊎ ((first ≡ fork) × (fork.thread ≡ thread) × ((k : ℕ) (a : Event) → k < n → At events k a → ¬ Knows thread a))

-- the reason holds of the event at this position, whatever other does
abbrev pub Holds : List Event → ℕ → Event → Reason → Type 0
Holds events n event (Joined line) = (join : Event) × IsFirstBefore events n (λ a. a.operation ≡ Join event.thread) join × (join.line ≡ line)
Holds events n event (Waits barrier line) = (arrive : Event) × WaitsAt events n event.thread barrier arrive × (arrive.line ≡ line)
    × (event.operation ≢ Depart barrier)
Holds events n event (NotArrived barrier) = (event.operation ≡ Depart barrier) × ((arrive : Event) → ¬ WaitsAt events n event.thread barrier arrive)
Holds events n event (Held lock thread line) = (event.operation ≡ Acquire lock) × (thread ≢ event.thread)
    × ((holder : Holder) × (holder_before events lock n ≡ Some holder) × (holder.thread ≡ thread) × (holder.line ≡ line))
Holds events n event (NotHeld lock) = (event.operation ≡ Release lock) × ¬ IsHeldBy (holder_before events lock n) event.thread
Holds events n event (Known thread line) = (event.operation ≡ Fork thread)
    × ((first : Event) × IsFirstKnown events n event thread first × (first.line ≡ line))

-- the order in which the reasons are tried
abbrev pub rank : Reason → ℕ
rank (Joined line) = 0
rank (Waits barrier line) = 1
rank (NotArrived barrier) = 2
rank (Held lock thread line) = 3
rank (NotHeld lock) = 4
rank (Known thread line) = 5

-- No program would give the event at this position, for this reason, the first that holds; and it is the first such event.
pub record IsIllFormed (events : List Event) (n : ℕ) (reason : Reason) : Type 0 where
  pub event : Event
  pub at : At events n event
  pub holds : Holds events n event reason
  pub first : (other : Reason) → Holds events n event other → rank reason ≤ rank other
  pub earlier : (k : ℕ) (a : Event) (other : Reason) → k < n → At events k a → ¬ Holds events k a other

-- the first fault of the events before position n, if there is one
abbrev pub IsFirstFault : List Event → ℕ → Option Fault → Type 0
IsFirstFault events n (Some fault) = (k : ℕ) × (k < n) × At events k fault.event × IsIllFormed events k fault.reason
IsFirstFault events n None = (k : ℕ) (a : Event) (reason : Reason) → k < n → At events k a → ¬ Holds events k a reason

-- the trace is well formed
abbrev pub IsWellFormed : List Event → Type 0
IsWellFormed events = (n : ℕ) (event : Event) (reason : Reason) → At events n event → ¬ Holds events n event reason
