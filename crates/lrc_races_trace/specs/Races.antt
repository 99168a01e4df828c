-- Races, and the pairs that are told.
use Rattle.std.specs.Prelude.{◌≡◌, ◌≢◌, ℕ, ◌<◌, ◌≤◌, ◌⊎◌, ◌↔◌, List, AllPairs, Contains}
use Rattle.lrc_races_trace.specs.declared.event.Event.{Event}
use Rattle.lrc_races_trace.specs.declared.event.Pair.{Pair}
use Rattle.lrc_races_trace.specs.Trace.{At, Accesses, Writes}
use Rattle.lrc_races_trace.specs.Order.{HappensBefore}

-- Two accesses conflict, if they are of different threads and of one variable, and at least one is a write.
pub record Conflict (a b : Event) : Type 0 where
  pub variable : ℕ
  pub apart : a.thread ≢ b.thread
  pub first : Accesses a variable
  pub second : Accesses b variable
  pub writes : Writes a variable ⊎ Writes b variable

-- Two accesses race, if they conflict and neither happens before the other. The earlier is named first.
pub record Races (events : List Event) (i j : ℕ) : Type 0 where
  pub a : Event
  pub b : Event
  pub earlier : i < j
  pub first : At events i a
  pub second : At events j b
  pub conflict : Conflict a b
  pub unordered : ¬ HappensBefore events i j

-- Told are, for each access and each other thread, the last access of that thread before it that races with it.
pub record IsTold (events : List Event) (pair : Pair) : Type 0 where
  pub first : At events pair.earlier.position pair.earlier.event
  pub second : At events pair.later.position pair.later.event
  pub races : Races events pair.earlier.position pair.later.position
  pub last : (k : ℕ) (c : Event) → At events k c → c.thread ≡ pair.earlier.event.thread → Races events k pair.later.position
      → k ≤ pair.earlier.position

-- Told first is what has the earlier access behind it; of one such access, what has the lower thread before it.
abbrev pub ComesFirst : Pair → Pair → Type 0
ComesFirst p q = (p.later.position < q.later.position)
    ⊎ ((p.later.position ≡ q.later.position) × (p.earlier.event.thread < q.earlier.event.thread))

-- the pairs are exactly those that are told of the event at this position
pub record AreToldAt (events : List Event) (position : ℕ) (pairs : List Pair) : Type 0 where
  pub in_order : AllPairs ComesFirst pairs
  pub exact : (pair : Pair) → Contains pairs pair ↔ (IsTold events pair × (pair.later.position ≡ position))

-- the pairs are exactly those that are told of the trace
pub record AreTold (events : List Event) (pairs : List Pair) : Type 0 where
  pub in_order : AllPairs ComesFirst pairs
  pub exact : (pair : Pair) → Contains pairs pair ↔ IsTold events pair
