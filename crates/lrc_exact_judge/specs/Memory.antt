-- The memory that the judge keeps: what each node has, and what was known at each lock's last release.
use Rattle.std.specs.Prelude.{◌≡◌, ℕ, ◌+◌, ◌<◌, ◌==◌, List, Vec, Option, Some, None, length, nat_lt, slice_get, slice_index_or, if◌then◌else◌}
use Rattle.std.specs.declared.alloc.Global.{Global}
use Rattle.lrc_time.specs.Time.{entry}
use Rattle.lrc_exact.specs.Rule.{Shape, State}
use Rattle.lrc_exact_copies.specs.declared.copy.NodeCopy.{NodeCopy}
use Rattle.lrc_exact_copies.specs.declared.made.Made.{Made}
use Rattle.lrc_exact_copies.specs.Copies.{CopyOf}
use Rattle.lrc_exact_copies.specs.Made.{AreAmong, row_of}
use Rattle.lrc_exact_judge.specs.Shape.{shape_of}
use Rattle.lrc_exact_judge.specs.declared.layout.Layout.{Layout}
use Rattle.lrc_exact_judge.specs.declared.memory.Memory.{Memory}

-- the state that each node has, and that at each lock's last release, if there was one
pub record Having : Type 0 where
  pub have : ℕ → State
  pub released : ℕ → Option State

-- what is kept of a node in a state: it accessed nothing after one time, and learned nothing after another
pub record IsNodeOf (shape : Shape) (accessed learned : ℕ) (copies : List NodeCopy) (made : List (Vec Made Global)) (dropped : List ℕ)
    (node : ℕ) (state : State) : Type 0 where
  pub copy : NodeCopy
  pub stands : slice_get copies node ≡ Some copy
  pub is : CopyOf shape node accessed learned copy state
  pub among : AreAmong made state.knows
  pub own : entry state.knows.time node ≡ length (row_of made node)
  pub wide : length state.knows.time ≡ shape.nodes
  pub dropped_is : state.dropped ≡ dropped

-- what is kept of a lock's last release
pub data IsReleased (nodes : ℕ) (made : List (Vec Made Global)) : Option (List ℕ) → Option State → Type 0 where
  never : IsReleased nodes made None None
  once : {time : List ℕ} {state : State} → state.knows.time ≡ time → length time ≡ nodes → AreAmong made state.knows
      → IsReleased nodes made (Some time) (Some state)

-- what is kept of all nodes and locks, where no node closed more than so many intervals
pub record AreKept (layout : Layout) (accessed learned most : ℕ) (copies : List NodeCopy) (made : List (Vec Made Global))
    (released : List (Option (List ℕ))) (dropped : List ℕ) (having : Having) : Type 0 where
  pub all_copies : length copies ≡ layout.nodes
  pub all_made : length made ≡ layout.nodes
  pub all_locks : length released ≡ 256
  pub wide : length dropped ≡ layout.nodes
  pub nodes : (node : ℕ) → node < layout.nodes → IsNodeOf (shape_of layout) accessed learned copies made dropped node (having.have node)
  pub locks : (l : ℕ) → l < 256 → IsReleased layout.nodes made (slice_index_or released l None) (having.released l)
  pub short : (node : ℕ) → length (row_of made node) < most + 1

abbrev pub IsKept : ℕ → ℕ → ℕ → Memory → Having → Type 0
IsKept accessed learned most memory having =
    AreKept memory.layout accessed learned most memory.copies.items memory.made.items memory.released.items memory.dropped having

-- the memory is kept of some states, and another interval can be counted
pub record IsReady (memory : Memory) : Type 0 where
  pub accessed : ℕ
  pub learned : ℕ
  pub most : ℕ
  pub having : Having
  pub kept : IsKept accessed learned most memory having
  pub few : most < 4294967295

-- the same, and nothing in it is as late as this time
pub record IsReadyBy (now : ℕ) (memory : Memory) : Type 0 where
  pub accessed : ℕ
  pub learned : ℕ
  pub most : ℕ
  pub having : Having
  pub kept : IsKept accessed learned most memory having
  pub few : most < 4294967295
  pub early : accessed < now
  pub late : learned < now + 1

-- two memories are laid out alike, and count the same departs
pub record CountAlike (old new : Memory) : Type 0 where
  pub layout : new.layout ≡ old.layout
  pub departs : new.departs ≡ old.departs
  pub settled : new.settled ≡ old.settled

-- one node has another state, and one lock was released in another
abbrev pub with_have : Having → ℕ → State → Having
with_have having node state = record having { have = λ q. if q == node then state else having.have q }

abbrev pub with_release : Having → ℕ → State → Having
with_release having lock state = record having { released = λ l. if l == lock then Some state else having.released l }

-- each of so many nodes has its state
abbrev pub all_of : ℕ → (ℕ → State) → ℕ → Option State
all_of nodes have node = if nat_lt node nodes then Some (have node) else None

-- all nodes have other states
abbrev pub with_all : Having → (ℕ → State → State) → Having
with_all having change = record having { have = λ q. change q (having.have q) }
