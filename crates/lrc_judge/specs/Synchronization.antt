-- Where a run breaks well-synchronization.
use Rattle.std.specs.Prelude.{ℕ, ◌<◌, ◌≤◌, List}
use Rattle.lrc_trace.specs.declared.act.Act.{Act}
use Rattle.lrc_trace.specs.declared.act.Deed.TheVariants.{Acquire, Release, Depart}
use Rattle.lrc_trace.specs.Run.{Does, arrives_before, departs_before}
use Rattle.lrc_trace.specs.Synchronization.{Holds}

-- A run of so many nodes breaks well-synchronization at position j
pub data Breaks (nodes : ℕ) (run : List Act) (j : ℕ) : Type 0 where
  -- by an acquire of a lock that some node holds,
  acquire : {node other l : ℕ} → Does run j node (Acquire l) → Holds run j other l → Breaks nodes run j
  -- by a release of a lock that the node doesn't hold,
  release : {node l : ℕ} → Does run j node (Release l) → ¬ Holds run j node l → Breaks nodes run j
  -- or by a depart before some node has arrived more often than this node has departed.
  depart : {node other : ℕ} → Does run j node Depart → other < nodes
      → arrives_before run other j ≤ departs_before run node j → Breaks nodes run j

-- the least position at which it does
pub record IsFirstBreak (nodes : ℕ) (run : List Act) (p : ℕ) : Type 0 where
  pub broken : Breaks nodes run p
  pub earlier : (j : ℕ) → j < p → ¬ Breaks nodes run j
