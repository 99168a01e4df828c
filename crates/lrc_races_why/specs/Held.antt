-- The locks that a thread holds: those that it has acquired more often than released since it last held them not. What other
-- threads do is nothing to that.
use Rattle.std.specs.Prelude.{◌≡◌, ◌≢◌, ℕ, zero, suc, ◌+◌, ◌-◌, ◌<◌, ◌≤◌, ◌==◌, ◌↔◌, if◌then◌else◌, List, Option, Some, None, AllPairs, Contains, slice_get}
use Rattle.lrc_races_trace.specs.declared.event.Event.{Event}
use Rattle.lrc_races_trace.specs.declared.event.Operation.{Operation}
use Rattle.lrc_races_trace.specs.declared.event.Operation.TheVariants.{Acquire, Release}
use Rattle.lrc_races_why.specs.declared.held.Holding.{Holding}

-- an acquire of the lock is one more, and a release one less, if there is one
abbrev pub after_operation : ℕ → Operation → ℕ → ℕ
after_operation lock (Acquire other) depth = if other == lock then depth + 1 else depth
after_operation lock (Release other) depth = if other == lock then depth - 1 else depth
after_operation lock _ depth = depth

abbrev pub after_event : ℕ → ℕ → Option Event → ℕ → ℕ
after_event thread lock (Some event) depth = if event.thread == thread then after_operation lock event.operation depth else depth
after_event thread lock None depth = depth

-- how many of the thread's acquires of the lock before this position are not released there
unfoldable pub depth_before : List Event → ℕ → ℕ → ℕ → ℕ
depth_before events thread lock zero = 0
depth_before events thread lock (suc position) = after_event thread lock (slice_get events position) (depth_before events thread lock position)

-- The thread holds the lock at position n, came to hold it by the event at this position, and has held it since.
pub record IsSince (events : List Event) (thread lock n position : ℕ) : Type 0 where
  pub before : position < n
  pub free : depth_before events thread lock position ≡ 0
  pub held : (k : ℕ) → position < k → k ≤ n → 0 < depth_before events thread lock k

-- it came to hold the one lock before it came to hold the other
abbrev pub ComesFirst : List Event → ℕ → ℕ → ℕ → ℕ → Type 0
ComesFirst events thread n lock other = (p q : ℕ) × IsSince events thread lock n p × IsSince events thread other n q × (p < q)

-- these are exactly the locks that the thread holds at position n, in the order in which it came to hold them
pub record AreHeld (events : List Event) (thread n : ℕ) (locks : List ℕ) : Type 0 where
  pub in_order : AllPairs (ComesFirst events thread n) locks
  pub exact : (lock : ℕ) → Contains locks lock ↔ (0 < depth_before events thread lock n)

-- what is kept of a lock; where nothing is, the thread does not hold it
abbrev pub kept_holding : Option Holding → Holding
kept_holding (Some holding) = holding
kept_holding None = record { depth = 0; since = 0 }

abbrev pub holding_at : List Holding → ℕ → Holding
holding_at holdings lock = kept_holding (slice_get holdings lock)

-- this is kept of this lock, and of all others what was before
pub record IsHoldingSet (before after : List Holding) (lock : ℕ) (holding : Holding) : Type 0 where
  pub here : holding_at after lock ≡ holding
  pub others : (other : ℕ) → other ≢ lock → holding_at after other ≡ holding_at before other

pub record IsHolding (events : List Event) (thread lock n : ℕ) (holding : Holding) : Type 0 where
  pub depth : holding.depth ≡ depth_before events thread lock n
  pub since : 0 < holding.depth → IsSince events thread lock n holding.since

abbrev pub AreHoldings : List Event → ℕ → ℕ → List Holding → Type 0
AreHoldings events thread n holdings = (lock : ℕ) → IsHolding events thread lock n (holding_at holdings lock)
