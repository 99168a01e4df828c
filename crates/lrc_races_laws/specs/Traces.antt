-- Acts as events of a trace of threads.
use Rattle.std.specs.Prelude.{◌≡◌, ℕ, ◌≤◌, List, Contains, length}
use Rattle.lrc_trace.specs.declared.act.Act.{Act}
use Rattle.lrc_trace.specs.declared.act.Deed.{Deed}
use Rattle.lrc_trace.specs.declared.act.Deed.TheVariants.{Read as Reading, Write as Writing, Acquire as Acquiring, Release as Releasing, Arrive as Arriving, Depart as Departing}
use Rattle.lrc_trace.specs.Run.{Does}
use Rattle.lrc_trace.specs.Conflict.{Accesses, Races}
use Rattle.lrc_races_trace.specs.declared.event.Event.{Event}
use Rattle.lrc_races_trace.specs.declared.event.Pair.{Pair}
use Rattle.lrc_races_trace.specs.declared.event.Operation.{Operation}
use Rattle.lrc_races_trace.specs.declared.event.Operation.TheVariants.{Read, Write, Acquire, Release, Arrive, Depart, Idle}
use Rattle.lrc_races_trace.specs.Trace.{At}

-- the numbers that a trace has for nodes, words and locks, and for the one barrier
pub record Numbers : Type 0 where
  pub thread : ℕ → ℕ
  pub variable : ℕ → ℕ
  pub lock : ℕ → ℕ
  pub barrier : ℕ

-- what a deed is as an operation
abbrev pub operation_of : Numbers → Deed → Operation
operation_of numbers (Reading word value) = Read (numbers.variable word)
operation_of numbers (Writing word value) = Write (numbers.variable word)
operation_of numbers (Acquiring l) = Acquire (numbers.lock l)
operation_of numbers (Releasing l) = Release (numbers.lock l)
operation_of numbers Arriving = Arrive numbers.barrier
operation_of numbers Departing = Depart numbers.barrier
operation_of numbers _ = Idle

-- the lock that a deed acquires or releases
abbrev pub Locks : Deed → ℕ → Type 0
Locks (Acquiring other) l = other ≡ l
Locks (Releasing other) l = other ≡ l
Locks _ l = ⊥

-- The events stand for the acts: one for each, with the act's node and deed, whatever their lines and locations. What differs
-- has different numbers.
pub record AreEvents (numbers : Numbers) (acts : List Act) (events : List Event) : Type 0 where
  pub long : length events ≡ length acts
  pub same : (i node : ℕ) (deed : Deed) → Does acts i node deed
      → (a : Event) × At events i a × (a.thread ≡ numbers.thread node) × (a.operation ≡ operation_of numbers deed)
  pub threads : (i j p q : ℕ) (a b : Deed) → Does acts i p a → Does acts j q b → numbers.thread p ≡ numbers.thread q → p ≡ q
  pub variables : (i j p q v w : ℕ) → Accesses acts i p v → Accesses acts j q w → numbers.variable v ≡ numbers.variable w → v ≡ w
  pub locks : (i j p q l m : ℕ) (a b : Deed) → Does acts i p a → Does acts j q b → Locks a l → Locks b m → numbers.lock l ≡ numbers.lock m → l ≡ m

-- The pairs are races of the acts, of each access and each node the last, and each race has one.
pub record AreToldOf (acts : List Act) (pairs : List Pair) : Type 0 where
  pub races : (pair : Pair) → Contains pairs pair → Races acts pair.earlier.position pair.later.position
  pub last : (pair : Pair) → Contains pairs pair → (k p : ℕ) (d e : Deed) → Does acts pair.earlier.position p d → Does acts k p e
      → Races acts k pair.later.position → k ≤ pair.earlier.position
  pub each : (i j p : ℕ) (d : Deed) → Does acts i p d → Races acts i j
      → (pair : Pair) × Contains pairs pair × (pair.later.position ≡ j) × ((e : Deed) × Does acts pair.earlier.position p e) × (i ≤ pair.earlier.position)
