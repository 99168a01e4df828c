-- The order of a run: program order, lock order and barrier order, and what follows from them.
use Rattle.std.specs.Prelude.{◌≡◌, ℕ, ◌<◌, ◌⊎◌, List}
use Rattle.lrc_trace.specs.declared.act.Act.{Act}
use Rattle.lrc_trace.specs.declared.act.Deed.{Deed}
use Rattle.lrc_trace.specs.declared.act.Deed.TheVariants.{Acquire, Release, Arrive, Depart}
use Rattle.lrc_trace.specs.Run.{Does, arrives_before, departs_before}

-- The base order: position i comes before the later position j, where
pub data Precedes (run : List Act) : ℕ → ℕ → Type 0 where
  -- both are acts of one node,
  program : {i j node : ℕ} {a b : Deed} → i < j → Does run i node a → Does run j node b → Precedes run i j
  -- or i releases a lock that j acquires,
  lock : {i j p q l : ℕ} → i < j → Does run i p (Release l) → Does run j q (Acquire l) → Precedes run i j
  -- or i is some node's arrive and j some node's depart, each with as many of its own before it.
  barrier : {i j p q : ℕ} → i < j → Does run i p Arrive → Does run j q Depart
      → arrives_before run p i ≡ departs_before run q j → Precedes run i j

-- Happens before: the transitive closure of the base order.
pub data HappensBefore (run : List Act) : ℕ → ℕ → Type 0 where
  base : {i j : ℕ} → Precedes run i j → HappensBefore run i j
  further : {i j k : ℕ} → HappensBefore run i j → Precedes run j k → HappensBefore run i k

-- position i is position j, or happens before it
abbrev pub Reaches : List Act → ℕ → ℕ → Type 0
Reaches run i j = (i ≡ j) ⊎ HappensBefore run i j
