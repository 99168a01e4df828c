-- What it is for a state of the plain machine to be the one that the acts so far make.
use Rattle.std.specs.Prelude.{◌≡◌, ℕ, ◌+◌, ◌<◌, Bool, true, false, Option, Some, None, List, length, slice_index, slice_index_or}
use Rattle.lrc_trace.specs.declared.act.Act.{Act}
use Rattle.lrc_trace.specs.Run.{arrives_before, departs_before}
use Rattle.lrc_trace.specs.Synchronization.{Holds}
use Rattle.lrc_exec.specs.Meaning.{Thread, holds}
use Rattle.lrc_exec.specs.Plain.{Plain, thread_in}
use Rattle.lrc_consistency_laws.specs.InOrder.{last_value}

-- how often a node has arrived, by how often it has departed and whether its thread waits
abbrev pub IsPaired : Bool → ℕ → ℕ → Type 0
IsPaired true arrived departed = arrived ≡ departed + 1
IsPaired false arrived departed = arrived ≡ departed

-- a node's thread, against the acts before position j
pub record ThreadFits (run : List Act) (j : ℕ) (machine : Plain) (node : ℕ) (t : Thread) : Type 0 where
  pub words : t.setting.words ≡ length machine.memory
  pub locks : t.setting.locks ≡ length machine.holders
  pub paired : IsPaired t.arrived (arrives_before run node j) (departs_before run node j)
  pub held : (l : ℕ) → holds t l ≡ true → Holds run j node l

-- the machine's state is what the acts before position j make of it
pub record Matches (run : List Act) (j : ℕ) (machine : Plain) : Type 0 where
  pub memory : (w : ℕ) → w < length machine.memory → slice_index machine.memory w ≡ last_value run j w
  pub free : (l : ℕ) → slice_index_or machine.holders l None ≡ None → (n : ℕ) → Holds run j n l → ⊥
  pub held : (l m : ℕ) → slice_index_or machine.holders l None ≡ Some m → Holds run j m l × ((n : ℕ) → Holds run j n l → n ≡ m)
  pub arrivals : (n : ℕ) → n < length machine.arrivals → slice_index machine.arrivals n ≡ arrives_before run n j
  pub sizes : length machine.threads ≡ length machine.arrivals
  pub threads : (n : ℕ) (t : Thread) → thread_in machine n ≡ Some t → ThreadFits run j machine n t
