-- What the acts of a run say of its locks, and the times of its acquires.
use Rattle.std.specs.Prelude.{◌≡◌, ℕ, List}
use Rattle.lrc_trace.specs.declared.act.Act.{Act}
use Rattle.lrc_trace.specs.declared.act.Deed.TheVariants.{Acquire, Release}
use Rattle.lrc_trace.specs.Run.{Does}
use Rattle.lrc_trace.specs.Synchronization.{Holds}
use Rattle.lrc_time.specs.Time.{joined}
use Rattle.lrc_clock.specs.Times.{time_at, stamp_at, released_time}

-- A lock is acquired where nobody holds it, and released by its holder; and an acquire learns what the lock's last release
-- knew, by whichever node that was made.
pub record KeepsLocks (nodes : ℕ) (run : List Act) (times : List (List ℕ)) : Type 0 where
  pub acquires : (j node l : ℕ) → Does run j node (Acquire l) → (other : ℕ) → ¬ Holds run j other l
  pub releases : (j node l : ℕ) → Does run j node (Release l) → Holds run j node l
  pub learns : (j node l : ℕ) → Does run j node (Acquire l)
      → time_at times j ≡ joined (stamp_at nodes run times node j) (released_time nodes run times l j)
