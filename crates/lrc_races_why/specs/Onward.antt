-- The best starts of chains, by what comes right before them.
use Rattle.std.specs.Prelude.{◌≡◌, ℕ, ◌≤◌, ◌⊎◌, List, Option, Some, Vec}
use Rattle.std.specs.declared.alloc.Global.{Global}
use Rattle.lrc_races_trace.specs.declared.event.Event.{Event}
use Rattle.lrc_races_trace.specs.declared.event.Operation.{Operation}
use Rattle.lrc_races_trace.specs.declared.event.Operation.TheVariants.{Release, Post, Fork, Join, Arrive, Depart}
use Rattle.lrc_races_trace.specs.Trace.{At, got}
use Rattle.lrc_races_trace.specs.Cycles.{cycles_before}
use Rattle.lrc_races_trace.specs.Order.{Precedes}
use Rattle.lrc_chains.specs.declared.starts.Start.{Start}
use Rattle.lrc_chains.specs.Starts.{IsBest}
use Rattle.lrc_chains.specs.Table.{start_at, start_in}
use Rattle.lrc_races_why.specs.declared.onward.Onward.{Onward}

-- the event at this position is the thread's,
abbrev pub ActsAs : List Event → ℕ → ℕ → Type 0
ActsAs events u k = (a : Event) × At events k a × (a.thread ≡ u)

-- gets the lock,
abbrev pub GetsLock : List Event → ℕ → ℕ → Type 0
GetsLock events l k = (a : Event) × At events k a × (got a.operation ≡ Some l)

-- joins the thread,
abbrev pub JoinsThread : List Event → ℕ → ℕ → Type 0
JoinsThread events u k = (a : Event) × At events k a × (a.operation ≡ Join u)

-- is the thread's or joins it,
abbrev pub OfThread : List Event → ℕ → ℕ → Type 0
OfThread events u k = ActsAs events u k ⊎ JoinsThread events u k

-- departs from this cycle of the barrier
abbrev pub DepartsIn : List Event → ℕ → ℕ → ℕ → Type 0
DepartsIn events x cycle k = (a : Event) × At events k a × (a.operation ≡ Depart x) × ((cycles_before events x k).of a.thread ≡ Some cycle)

-- it is one that an operation at position n comes right before, whichever threads they are of
abbrev pub Gated : List Event → ℕ → Operation → ℕ → Type 0
Gated events n (Release l) k = GetsLock events l k
Gated events n (Post l) k = GetsLock events l k
Gated events n (Fork u) k = OfThread events u k
Gated events n (Arrive x) k = DepartsIn events x (cycles_before events x n).current k
Gated events n _ k = ⊥

-- the best starts of the positions from n on, for each thread, lock, joined thread, and cycle
abbrev pub AreThreadStarts : List Event → ℕ → ℕ → List (Option Start) → Type 0
AreThreadStarts events to n row = (u : ℕ) → IsBest (Precedes events) to (λ k. (n ≤ k) × ActsAs events u k) (start_at row u)

abbrev pub AreLockStarts : List Event → ℕ → ℕ → List (Option Start) → Type 0
AreLockStarts events to n row = (l : ℕ) → IsBest (Precedes events) to (λ k. (n ≤ k) × GetsLock events l k) (start_at row l)

abbrev pub AreJoinStarts : List Event → ℕ → ℕ → List (Option Start) → Type 0
AreJoinStarts events to n row = (u : ℕ) → IsBest (Precedes events) to (λ k. (n ≤ k) × JoinsThread events u k) (start_at row u)

abbrev pub AreDepartStarts : List Event → ℕ → ℕ → List (Vec (Option Start) Global) → Type 0
AreDepartStarts events to n rows = (x cycle : ℕ) → IsBest (Precedes events) to (λ k. (n ≤ k) × DepartsIn events x cycle k) (start_in rows x cycle)

pub record IsOnward (events : List Event) (to n : ℕ) (onward : Onward) : Type 0 where
  pub threads : AreThreadStarts events to n onward.threads.items
  pub locks : AreLockStarts events to n onward.locks.items
  pub joins : AreJoinStarts events to n onward.joins.items
  pub departs : AreDepartStarts events to n onward.departs.items
