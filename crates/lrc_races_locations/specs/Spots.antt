-- What is kept of a variable: of each thread, location and kind that access it the last access.
use Rattle.std.specs.Prelude.{◌≡◌, ℕ, ◌<◌, ◌≤◌, ◌==◌, ◌&&◌, Bool, List, [], Option, Some, None, Vec, AllPairs, Contains, slice_get}
use Rattle.std.specs.declared.alloc.Global.{Global}
use Rattle.lrc_races_trace.specs.declared.event.Event.{Event}
use Rattle.lrc_races_trace.specs.declared.event.Placed.{Placed}
use Rattle.lrc_races_trace.specs.Trace.{At, Accesses}
use Rattle.lrc_races_trace.specs.Groups.{alike}
use Rattle.lrc_races_detector.specs.Grouping.{side_of}

-- both are of one thread, at one location and of one kind
pub record AreAtOneSpot (a b : Event) : Type 0 where
  pub thread : a.thread ≡ b.thread
  pub side : side_of a ≡ side_of b

abbrev pub at_one_spot : Event → Event → Bool
at_one_spot a b = a.thread == b.thread && alike a b

-- the last access of its thread at its location and of its kind
pub record IsSpot (events : List Event) (n v : ℕ) (spot : Placed) : Type 0 where
  pub before : spot.position < n
  pub at : At events spot.position spot.event
  pub accesses : Accesses spot.event v
  pub last : (k : ℕ) (c : Event) → k < n → At events k c → Accesses c v → AreAtOneSpot spot.event c → k ≤ spot.position

-- exactly these, in the order of the trace
pub record IsRow (events : List Event) (n v : ℕ) (row : List Placed) : Type 0 where
  pub in_order : AllPairs (λ p q. p.position < q.position) row
  pub sound : (spot : Placed) → Contains row spot → IsSpot events n v spot
  pub complete : (k : ℕ) (c : Event) → k < n → At events k c → Accesses c v → (spot : Placed) × Contains row spot × AreAtOneSpot spot.event c

-- the row of a variable
abbrev pub items_of : Option (Vec Placed Global) → List Placed
items_of (Some row) = row.items
items_of None = []

abbrev pub row_of : List (Vec Placed Global) → ℕ → List Placed
row_of rows variable = items_of (slice_get rows variable)

abbrev pub AreRows : List Event → ℕ → List (Vec Placed Global) → Type 0
AreRows events n rows = (v : ℕ) → IsRow events n v (row_of rows v)
