-- Two runs whose nodes, locks and barriers are in alike states.
use Rattle.std.specs.Prelude.{◌≡◌, ℕ, ◌+◌, ◌<◌, ◌≤◌, List, Some, length}
use Rattle.lrc_trace.specs.declared.act.Act.{Act}
use Rattle.lrc_trace.specs.declared.act.Deed.{Deed}
use Rattle.lrc_trace.specs.declared.act.Deed.TheVariants.{Acquire, Depart}
use Rattle.lrc_trace.specs.Run.{arrives_before, departs_before}
use Rattle.lrc_trace.specs.Synchronization.{Holds}
use Rattle.lrc_time.specs.Time.{entry, weight_of, zeros}
use Rattle.lrc_exact.specs.LocalRule.{arrived_state, released_state, state_before}
use Rattle.lrc_exact.specs.Rule.{Shape, State, KeepsExact, closed, exact_rule, known_by_all}
use Rattle.lrc_exact_states.specs.Levels.{AreLevels, levels_told, Table, Told}
use Rattle.lrc_exact_states.specs.Alike.{AreDecided, ArriveAlike, IsHandedAlike, IsStateAlike}

-- From where a run is looked at: a time that all nodes know, and the number of a barrier below which all is over.
pub record Base : Type 0 where
  pub floor : List ℕ
  pub first : ℕ

-- before any act
abbrev pub begun : ℕ → Base
begun nodes = record { floor = zeros nodes; first = 0 }

-- two counts that differ as two others do
pub record IsAhead (count count' first first' : ℕ) : Type 0 where
  pub more : ℕ
  pub one : count ≡ more + first
  pub other : count' ≡ more + first'

-- the same nodes hold the same locks, and the nodes have come as often to barriers
pub record AreSynchronizedAlike (nodes first first' : ℕ) (run run' : List Act) : Type 0 where
  pub holds : (q l : ℕ) → Holds run (length run) q l → Holds run' (length run') q l
  pub holds' : (q l : ℕ) → Holds run' (length run') q l → Holds run (length run) q l
  pub arrives : (q : ℕ) → q < nodes → IsAhead (arrives_before run q (length run)) (arrives_before run' q (length run')) first first'
  pub departs : (q : ℕ) → q < nodes → IsAhead (departs_before run q (length run)) (departs_before run' q (length run')) first first'

-- the state of a node after a run
abbrev pub here : Shape → List Act → List State → ℕ → State
here shape run states q = state_before (exact_rule shape) run states q (length run)

-- a node's own intervals are no heavier than what it knows
abbrev pub AreLight : Shape → List Act → List State → Table → Type 0
AreLight shape run states made = (q j : ℕ) → q < shape.nodes → 1 ≤ j → j ≤ entry (here shape run states q).knows.time q
    → (made q j).weight ≤ weight_of (here shape run states q).knows.time

-- The states of two runs are alike, seen from these bases.
pub record AreRunsAlike (shape : Shape) (cap : ℕ) (base base' : Base) (run run' : List Act) (states states' : List State) : Type 0 where
  pub some : 1 ≤ cap
  pub wide : length base.floor ≡ shape.nodes
  pub wide' : length base'.floor ≡ shape.nodes
  pub keeps : KeepsExact shape run states
  pub keeps' : KeepsExact shape run' states'
  pub synchronized : AreSynchronizedAlike shape.nodes base.first base'.first run run'
  pub made : Table
  pub made' : Table
  pub told : Told
  pub levels : AreLevels cap base.floor base'.floor made made' (levels_told told)
  pub most : (q b b' : ℕ) → q < shape.nodes → levels_told told q b b'
      → (b ≤ entry (here shape run states q).knows.time q) × (b' ≤ entry (here shape run' states' q).knows.time q)
  pub light : AreLight shape run states made
  pub light' : AreLight shape run' states' made'
  pub nodes_are : (q : ℕ) → q < shape.nodes
      → IsStateAlike shape.nodes cap base.floor base'.floor made made' (levels_told told) (here shape run states q) (here shape run' states' q)
  pub locks : (l : ℕ)
      → IsHandedAlike shape.nodes made made' (levels_told told) base.floor base'.floor (released_state run states l (length run)) (released_state run' states' l (length run'))
  pub arrived : (k q : ℕ)
      → ArriveAlike shape.nodes made made' (levels_told told) (arrived_state run states (k + base.first) (length run) q)
      (arrived_state run' states' (k + base'.first) (length run') q)

-- Each comparison that an act of a run makes is decided.
abbrev pub IsDecidedDeed : Shape → ℕ → List ℕ → List Act → List State → ℕ → Deed → Type 0
IsDecidedDeed shape cap floor run states node (Acquire l) =
    (r : State) → released_state run states l (length run) ≡ Some r → (word : ℕ)
    → AreDecided cap floor shape.nodes (closed node (here shape run states node)).knows.time r.knows word ((closed node (here shape run states node)).words word)
IsDecidedDeed shape cap floor run states node Depart =
    (word : ℕ)
    → AreDecided cap floor shape.nodes (here shape run states node).knows.time
    (known_by_all shape.nodes shape.nodes (arrived_state run states (departs_before run node (length run)) (length run))) word
    ((here shape run states node).words word)
IsDecidedDeed shape cap floor run states node deed = Unit {0}

-- A run is level: all nodes know the same, have arrived as often as departed, and each as often as the others. So after a barrier from which
-- all have departed, and before the next act. From there it may be looked at.
pub record IsLevel (shape : Shape) (base : Base) (run : List Act) (states : List State) : Type 0 where
  pub wide : length base.floor ≡ shape.nodes
  pub knows : (q node : ℕ) → q < shape.nodes → node < shape.nodes → entry (here shape run states q).knows.time node ≡ entry base.floor node
  pub arrived : (q : ℕ) → q < shape.nodes → arrives_before run q (length run) ≡ base.first
  pub departed : (q : ℕ) → q < shape.nodes → departs_before run q (length run) ≡ base.first
