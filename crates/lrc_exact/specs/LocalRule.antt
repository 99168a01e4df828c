-- Runs with a state at each position, by a local rule: an act makes its node's next state of the state that the node has, and of what
-- synchronization hands on to it, and of nothing else.
use Rattle.std.specs.Prelude.{◌≡◌, ℕ, zero, suc, ◌<◌, ◌&&◌, Bool, cond, List, Option, Some, None, length, slice_get, unwrap_or}
use Rattle.lrc_trace.specs.declared.act.Act.{Act}
use Rattle.lrc_trace.specs.declared.act.Deed.{Deed}
use Rattle.lrc_trace.specs.declared.act.Deed.TheVariants.{Acquire, Depart}
use Rattle.lrc_trace.specs.Run.{Does, departs_before}
use Rattle.lrc_clock.specs.Times.{acts_at, releases_at, arrives_at}

-- What an act of a node makes of its state:
pub record LocalRule (S : Type 0) : Type 0 where
  -- each node begins in this state,
  pub start : ℕ → S
  -- an acquire has the node's state, and the state at the lock's last release, if there was one,
  pub acquire : ℕ → S → Option S → S
  -- a depart has the node's state, and that of each node at its arrive at the same barrier,
  pub depart : ℕ → S → (ℕ → Option S) → S
  -- and every other deed has the node's state alone.
  pub alone : ℕ → Deed → S → S

-- the state at the last of the positions before j that pass, or none
abbrev pub last_state : {S : Type 0} → (ℕ → Bool) → List S → ℕ → Option S
last_state passes states zero = None
last_state passes states (suc j) = cond (passes j) (slice_get states j) (last_state passes states j)

-- the state of a node before position j: that at its last position before, or that in which it begins
abbrev pub state_before : {S : Type 0} → LocalRule S → List Act → List S → ℕ → ℕ → S
state_before rule run states node j = unwrap_or (last_state (acts_at run node) states j) (rule.start node)

-- the state at the last release of the lock before j, by whichever node
abbrev pub released_state : {S : Type 0} → List Act → List S → ℕ → ℕ → Option S
released_state run states l j = last_state (releases_at run l) states j

-- whether the node arrives at a position with so many arrives of its own before
abbrev pub arrives_there : List Act → ℕ → ℕ → ℕ → Bool
arrives_there run number node k = arrives_at run number k && acts_at run node k

-- the state at the node's arrive with this number
abbrev pub arrived_state : {S : Type 0} → List Act → List S → ℕ → ℕ → ℕ → Option S
arrived_state run states number j node = last_state (arrives_there run number node) states j

-- the state that the rule makes of a deed of the node at position j
abbrev pub state_after : {S : Type 0} → LocalRule S → List Act → List S → ℕ → ℕ → Deed → S
state_after rule run states j node (Acquire l) = rule.acquire node (state_before rule run states node j) (released_state run states l j)
state_after rule run states j node Depart =
    rule.depart node (state_before rule run states node j) (arrived_state run states (departs_before run node j) j)
state_after rule run states j node deed = rule.alone node deed (state_before rule run states node j)

-- The states are those of the run's positions, for so many nodes: that of the acting node just after each act.
pub record KeepsStates {S : Type 0} (rule : LocalRule S) (nodes : ℕ) (run : List Act) (states : List S) : Type 0 where
  pub stated : length states ≡ length run
  pub in_range : (j node : ℕ) (deed : Deed) → Does run j node deed → node < nodes
  pub follows : (j node : ℕ) (deed : Deed) → Does run j node deed
      → slice_get states j ≡ Some (state_after rule run states j node deed)
