-- Happens before: the least transitive relation of these cases.
use Rattle.std.specs.Prelude.{◌≡◌, ℕ, ◌<◌, ◌⊎◌, List, Some}
use Rattle.lrc_races_trace.specs.declared.event.Event.{Event}
use Rattle.lrc_races_trace.specs.declared.event.Operation.TheVariants.{Fork, Join, Arrive, Depart}
use Rattle.lrc_races_trace.specs.Trace.{At, given, got}
use Rattle.lrc_races_trace.specs.Cycles.{cycles_before}

-- Event i comes right before the later event j, where
pub data Precedes (events : List Event) : ℕ → ℕ → Type 0 where
  -- both are of one thread,
  program : {i j : ℕ} {a b : Event} → i < j → At events i a → At events j b → a.thread ≡ b.thread → Precedes events i j
  -- or i releases or posts a lock that j acquires or waits for,
  lock : {i j l : ℕ} {a b : Event} → i < j → At events i a → At events j b → given a.operation ≡ Some l → got b.operation ≡ Some l
      → Precedes events i j
  -- or i forks the thread of j,
  fork : {i j : ℕ} {a b : Event} → i < j → At events i a → At events j b → a.operation ≡ Fork b.thread → Precedes events i j
  -- or j joins the thread of i,
  join : {i j : ℕ} {a b : Event} → i < j → At events i a → At events j b → b.operation ≡ Join a.thread → Precedes events i j
  -- or i forks the thread that j joins,
  fork_join : {i j u : ℕ} {a b : Event} → i < j → At events i a → At events j b → a.operation ≡ Fork u → b.operation ≡ Join u
      → Precedes events i j
  -- or i is an arrive and j a depart of one cycle of one barrier.
  barrier : {i j x : ℕ} {a b : Event} → i < j → At events i a → At events j b → a.operation ≡ Arrive x → b.operation ≡ Depart x
      → (cycles_before events x j).of b.thread ≡ Some (cycles_before events x i).current → Precedes events i j

-- Happens before: the transitive closure.
pub data HappensBefore (events : List Event) : ℕ → ℕ → Type 0 where
  base : {i j : ℕ} → Precedes events i j → HappensBefore events i j
  further : {i j k : ℕ} → HappensBefore events i j → Precedes events j k → HappensBefore events i k

-- position i is position j, or happens before it
abbrev pub Reaches : List Event → ℕ → ℕ → Type 0
Reaches events i j = (i ≡ j) ⊎ HappensBefore events i j
