-- Well synchronized: locks exclude one another, and barriers hold every node back.
use Rattle.std.specs.Prelude.{◌≡◌, ℕ, ◌<◌, ◌≤◌, false, List, length}
use Rattle.lrc_trace.specs.declared.act.Act.{Act}
use Rattle.lrc_trace.specs.declared.act.Deed.{Deed}
use Rattle.lrc_trace.specs.declared.act.Deed.TheVariants.{Acquire, Release, Depart}
use Rattle.lrc_trace.specs.Run.{Does, is_depart, arrives_before, departs_before}

-- before this position the node acquired the lock, and has not released it since
pub record Holds (run : List Act) (position node l : ℕ) : Type 0 where
  pub since : ℕ
  pub earlier : since < position
  pub acquired : Does run since node (Acquire l)
  pub kept : (k : ℕ) → since < k → k < position → ¬ Does run k node (Release l)

-- A run of so many nodes is well synchronized:
pub record IsWellSynchronized (nodes : ℕ) (run : List Act) : Type 0 where
  -- no acquire of a lock that some node holds,
  pub acquires : (j node l : ℕ) → Does run j node (Acquire l) → (other : ℕ) → ¬ Holds run j other l
  -- no release by a node that doesn't hold the lock,
  pub releases : (j node l : ℕ) → Does run j node (Release l) → Holds run j node l
  -- and no depart before every node has arrived more often than this node has departed.
  pub departs : (j node : ℕ) → Does run j node Depart → (other : ℕ) → other < nodes
      → departs_before run node j < arrives_before run other j

-- A node that has come to a barrier does nothing until it departs: at every other act it has departed as often as it has
-- arrived, or more often.
pub record WaitsAtBarriers (run : List Act) : Type 0 where
  pub departed : (j node : ℕ) (deed : Deed) → Does run j node deed → is_depart deed ≡ false
      → arrives_before run node j ≤ departs_before run node j

-- A well-synchronized run may go on with this act: the lock that it acquires is free, its node holds the lock that it
-- releases, and every node has arrived for its depart.
pub record MayGoOn (nodes : ℕ) (run : List Act) (act : Act) : Type 0 where
  pub acquires : (l : ℕ) → act.deed ≡ Acquire l → (other : ℕ) → ¬ Holds run (length run) other l
  pub releases : (l : ℕ) → act.deed ≡ Release l → Holds run (length run) act.node l
  pub departs : act.deed ≡ Depart → (other : ℕ) → other < nodes
      → departs_before run act.node (length run) < arrives_before run other (length run)
