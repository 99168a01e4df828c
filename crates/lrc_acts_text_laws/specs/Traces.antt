-- What a trace in the form of RAPID has to be for the tools that read it, and what it keeps of the run that it stands for.
use Rattle.std.specs.Prelude.{◌≡◌, ℕ, ◌<◌, ◌≤◌, List, [], ◌∷◌, Some, slice_get}
use Rattle.lrc_trace.specs.declared.act.Act.{Act}
use Rattle.lrc_trace.specs.declared.act.Deed.{Deed}
use Rattle.lrc_trace.specs.declared.act.Deed.TheVariants.{Read, Write, Acquire, Release}
use Rattle.lrc_trace.specs.Run.{Does}
use Rattle.lrc_trace.specs.Conflict.{Accesses}
use Rattle.lrc_acts_text.specs.Rapid.{RapidStep, rapid_steps}

-- At k stands the node's step for this deed: a read, a write, or the acquire or the release of a lock, be it one of the program or
-- one past those.
pub record DoesStep (steps : List RapidStep) (k node : ℕ) (deed : Deed) : Type 0 where
  pub step : RapidStep
  pub stands : slice_get steps k ≡ Some step
  -- the step alone stands for such a deed, whatever barriers the node has met
  pub is : (meeting : _) → rapid_steps meeting step.position node deed ≡ step ∷ []

-- before the step at k the node acquired the lock, and has not released it since
pub record HoldsStep (steps : List RapidStep) (k node l : ℕ) : Type 0 where
  pub since : ℕ
  pub earlier : since < k
  pub acquired : DoesStep steps since node (Acquire l)
  pub kept : (m : ℕ) → since < m → m < k → ¬ DoesStep steps m node (Release l)

-- A trace is well formed:
pub record IsWellFormed (steps : List RapidStep) : Type 0 where
  -- no step acquires a lock that some node holds, be it the node of the step,
  pub acquires : (k node l : ℕ) → DoesStep steps k node (Acquire l) → (other : ℕ) → ¬ HoldsStep steps k other l
  -- and each step that releases a lock is of a node that holds it.
  pub releases : (k node l : ℕ) → DoesStep steps k node (Release l) → HoldsStep steps k node l

-- one of the steps of the act at this position is the node's step for this deed
pub record HasStep (steps : List RapidStep) (position node : ℕ) (deed : Deed) : Type 0 where
  pub k : ℕ
  pub does : DoesStep steps k node deed
  pub at : does.step.position ≡ position

-- A trace keeps the accesses of acts of so many nodes:
pub record KeepsAccesses (nodes : ℕ) (acts : List Act) (steps : List RapidStep) : Type 0 where
  -- each step is of one of the nodes,
  pub node : (k : ℕ) (s : RapidStep) → slice_get steps k ≡ Some s → s.node < nodes
  -- each read and each write of a word has a step, which is of its node and on its word,
  pub read : (i node word value : ℕ) → Does acts i node (Read word value) → HasStep steps i node (Read word value)
  pub write : (i node word value : ℕ) → Does acts i node (Write word value) → HasStep steps i node (Write word value)
  -- and no other step,
  pub once : (i node word k m : ℕ) (s t : RapidStep) → Accesses acts i node word → slice_get steps k ≡ Some s → slice_get steps m ≡ Some t
      → s.position ≡ i → t.position ≡ i → k ≡ m
  -- each step that reads or writes a word is of an act of its node that does so, with whatever value,
  pub is_read : (k node word value : ℕ) (does : DoesStep steps k node (Read word value))
      → (own : ℕ) × Does acts does.step.position node (Read word own)
  pub is_write : (k node word value : ℕ) (does : DoesStep steps k node (Write word value))
      → (own : ℕ) × Does acts does.step.position node (Write word own)
  -- and the order of steps is that of their acts.
  pub order : (k m : ℕ) (s t : RapidStep) → slice_get steps k ≡ Some s → slice_get steps m ≡ Some t → k ≤ m → s.position ≤ t.position
