-- The order of a trace in the form of RAPID, and what it says of the run that it stands for.
use Rattle.std.specs.Prelude.{◌≡◌, ◌≢◌, ℕ, ◌<◌, ◌↔◌, List, Some, slice_get}
use Rattle.lrc_trace.specs.declared.act.Act.{Act}
use Rattle.lrc_trace.specs.declared.act.Deed.{Deed}
use Rattle.lrc_trace.specs.declared.act.Deed.TheVariants.{Acquire, Release}
use Rattle.lrc_trace.specs.Run.{Does}
use Rattle.lrc_trace.specs.Conflict.{Accesses}
use Rattle.lrc_trace.specs.Order.{HappensBefore}
use Rattle.lrc_trace.specs.Synchronization.{IsWellSynchronized, WaitsAtBarriers}
use Rattle.lrc_acts_text.specs.declared.rapid.Operation.TheVariants.{Acquires, Releases}
use Rattle.lrc_acts_text.specs.Rapid.{RapidStep, rapid_of}

-- A step comes before a later one, where
pub data StepPrecedes (steps : List RapidStep) : ℕ → ℕ → Type 0 where
  -- both are of one node,
  program : {k m : ℕ} {s t : RapidStep} → k < m → slice_get steps k ≡ Some s → slice_get steps m ≡ Some t → s.node ≡ t.node → StepPrecedes steps k m
  -- or the first releases a lock that the other acquires;
  lock : {k m l : ℕ} {s t : RapidStep} → k < m → slice_get steps k ≡ Some s → slice_get steps m ≡ Some t → s.operation ≡ Releases l
      → t.operation ≡ Acquires l → StepPrecedes steps k m

-- and what follows from that.
pub data StepBefore (steps : List RapidStep) : ℕ → ℕ → Type 0 where
  base : {k m : ℕ} → StepPrecedes steps k m → StepBefore steps k m
  further : {k m n : ℕ} → StepBefore steps k m → StepPrecedes steps m n → StepBefore steps k n

-- a step of the act at position i comes before one of the act at position j
pub record Orders (steps : List RapidStep) (i j : ℕ) : Type 0 where
  pub k : ℕ
  pub m : ℕ
  pub first : RapidStep
  pub second : RapidStep
  pub at_k : slice_get steps k ≡ Some first
  pub at_m : slice_get steps m ≡ Some second
  pub of_i : first.position ≡ i
  pub of_j : second.position ≡ j
  pub before : StepBefore steps k m

-- the acts are of so many nodes, and of the locks of a program that has so many
pub record IsOf (locks nodes : ℕ) (acts : List Act) : Type 0 where
  pub node : (j node : ℕ) (deed : Deed) → Does acts j node deed → node < nodes
  pub acquired : (j node l : ℕ) → Does acts j node (Acquire l) → l < locks
  pub released : (j node l : ℕ) → Does acts j node (Release l) → l < locks

-- Between two accesses of a well-synchronized run, in which nodes wait at barriers, the order of its trace is happens before.
abbrev pub OrderIsHappensBefore : Type 0
OrderIsHappensBefore = (locks nodes : ℕ) (acts : List Act) → IsOf locks nodes acts → IsWellSynchronized nodes acts → WaitsAtBarriers acts
    → (i j p q v w : ℕ) → Accesses acts i p v → Accesses acts j q w → i ≢ j
    → HappensBefore acts i j ↔ Orders (rapid_of locks nodes acts) i j
