-- Other traces of the same program: some events of a trace, each at most once, in an order in which the program may give them.
use Rattle.std.specs.Prelude.{◌≡◌, ◌≢◌, ℕ, ◌+◌, ◌<◌, ◌⊎◌, ◌↔◌, List, [], ◌∷◌, ◌++◌, length, AllPairs, Contains, slice_get, Some, ⊤}
use Rattle.lrc_races_trace.specs.declared.event.Event.{Event}
use Rattle.lrc_races_trace.specs.declared.event.Operation.{Operation}
use Rattle.lrc_races_trace.specs.declared.event.Operation.TheVariants.{Read, Acquire, Wait, Fork, Join, Depart}
use Rattle.lrc_races_trace.specs.Trace.{At}
use Rattle.lrc_races_trace.specs.Order.{HappensBefore}
use Rattle.lrc_races_sure.specs.Leading.{IsLastWrite, IsByWay}
use Rattle.lrc_races_sure.specs.Sure.{IsSureRace}

-- the k-th of the positions is p
pub record Stands (positions : List ℕ) (k p : ℕ) : Type 0 where
  pub is : slice_get positions k ≡ Some p

-- it is one of those before the k-th
abbrev pub StandsBefore : List ℕ → ℕ → ℕ → Type 0
StandsBefore positions k p = (m : ℕ) × (m < k) × Stands positions m p

-- The list has the trace's events at these positions, each at most once.
pub record AreTaken (events : List Event) (positions : List ℕ) (list : List Event) : Type 0 where
  pub long : length list ≡ length positions
  pub same : (k p : ℕ) → Stands positions k p → (a : Event) × At events p a × At list k a
  pub once : (k m p : ℕ) → Stands positions k p → Stands positions m p → k ≡ m

-- these operations wait for what happens before them
abbrev pub Awaits : Operation → Type 0
Awaits (Acquire lock) = ⊤
Awaits (Wait lock) = ⊤
Awaits (Depart barrier) = ⊤
Awaits (Join thread) = ⊤
Awaits _ = ⊥

-- the event is the first of its thread, which was forked before
pub record IsFirstOfForked (events : List Event) (position : ℕ) (event : Event) : Type 0 where
  pub fork : ℕ
  pub forking : Event
  pub before : fork < position
  pub at : At events fork forking
  pub forks : forking.operation ≡ Fork event.thread
  pub first : (k : ℕ) (other : Event) → k < position → At events k other → other.thread ≢ event.thread

-- A reordering of a trace that shows accesses i and j side by side. In the list
pub record IsReordering (events : List Event) (i j : ℕ) (positions : List ℕ) (list : List Event) : Type 0 where
  -- are events of the trace, each at most once,
  pub taken : AreTaken events positions list
  -- what is of a thread before an event of the list is in it, before that event,
  pub threads : (k p q : ℕ) (a b : Event) → Stands positions k q → At events q b → At events p a → p < q → a.thread ≡ b.thread
      → StandsBefore positions k p
  -- what waits, and the first event of a thread that was forked, has all that happens before it in the list, before it,
  pub waits : (k p q : ℕ) (b : Event) → Stands positions k q → At events q b → Awaits b.operation ⊎ IsFirstOfForked events q b
      → HappensBefore events p q → StandsBefore positions k p
  -- each read but i and j has before it in the list the same last write of its variable as in the trace, or none, as there,
  pub reads : (k q variable : ℕ) (b : Event) → Stands positions k q → q ≢ i → q ≢ j → At events q b → b.operation ≡ Read variable
      → (p : ℕ) → IsLastWrite events p q variable ↔ ((m : ℕ) × Stands positions m p × IsLastWrite list m k variable)
  -- i and j are the last two, and in the list, as a trace of its own, they are a sure race.
  pub before : ℕ
  pub size : length list ≡ before + 2
  pub first : Stands positions before i
  pub second : Stands positions (before + 1) j
  pub sure : IsSureRace list before (before + 1)

-- The positions of all events by way of which i or j was reached, in the order of the trace, then i, then j.
pub record AreOnTheWay (events : List Event) (i j : ℕ) (positions : List ℕ) : Type 0 where
  pub front : List ℕ
  pub is : positions ≡ front ++ (i ∷ j ∷ [])
  pub ascending : AllPairs (λ p q. p < q) front
  pub exact : (p : ℕ) → Contains front p ↔ (IsByWay events p i ⊎ IsByWay events p j)
