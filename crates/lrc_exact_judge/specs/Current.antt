-- The states that nodes have after a run, where those that wait at a barrier that some node left have learned already.
use Rattle.std.specs.Prelude.{◌≡◌, ℕ, ◌+◌, ◌<◌, ◌≤◌, List, Some, length, slice_index}
use Rattle.lrc_trace.specs.declared.act.Act.{Act}
use Rattle.lrc_trace.specs.Run.{arrives_before, departs_before}
use Rattle.lrc_exact.specs.LocalRule.{state_before, released_state, arrived_state}
use Rattle.lrc_exact.specs.Rule.{Shape, State, exact_rule, KeepsExact, departed}
use Rattle.lrc_exact_judge.specs.Memory.{Having, IsKept}
use Rattle.lrc_exact_judge.specs.Shape.{shape_of}
use Rattle.lrc_exact_judge.specs.declared.memory.Memory.{Memory}

-- So many barriers were left by some node.
pub record AreCurrent (shape : Shape) (run : List Act) (states : List State) (settled : ℕ) (having : Having) : Type 0 where
  pub behind : (node : ℕ) → node < shape.nodes → departs_before run node (length run) ≤ settled
  pub near : (node : ℕ) → node < shape.nodes → settled ≤ departs_before run node (length run) + 1
  pub came : (node : ℕ) → node < shape.nodes → departs_before run node (length run) ≤ arrives_before run node (length run)
  pub once : (node : ℕ) → node < shape.nodes → arrives_before run node (length run) ≤ departs_before run node (length run) + 1
  pub left : (node : ℕ) → node < shape.nodes → departs_before run node (length run) < settled
      → departs_before run node (length run) < arrives_before run node (length run)
  -- a node has the state of its last act, or that which its depart will make
  pub here : (node : ℕ) → node < shape.nodes → departs_before run node (length run) ≡ settled
      → having.have node ≡ state_before (exact_rule shape) run states node (length run)
  pub ahead : (node : ℕ) → node < shape.nodes → departs_before run node (length run) < settled
      → having.have node ≡ departed shape (state_before (exact_rule shape) run states node (length run))
      (arrived_state run states (departs_before run node (length run)) (length run))
  -- a node at a barrier made no act since it arrived
  pub waits : (node : ℕ) → node < shape.nodes → departs_before run node (length run) < arrives_before run node (length run)
      → arrived_state run states (departs_before run node (length run)) (length run) node
      ≡ Some (state_before (exact_rule shape) run states node (length run))
  pub locks : (l : ℕ) → having.released l ≡ released_state run states l (length run)

-- The memory is that after the run, and nothing in it is later than a time.
pub record IsMemoryAt (run : List Act) (now : ℕ) (memory : Memory) : Type 0 where
  pub states : List State
  pub keeps : KeepsExact (shape_of memory.layout) run states
  pub having : Having
  pub kept : IsKept now now now memory having
  pub departs : (node : ℕ) → node < memory.layout.nodes → slice_index memory.departs node ≡ departs_before run node (length run)
  pub current : AreCurrent (shape_of memory.layout) run states memory.settled having

abbrev pub IsMemoryOf : List Act → Memory → Type 0
IsMemoryOf run memory = IsMemoryAt run (length run) memory
