-- Reading in order: each read gives what the last write before it in the run wrote.
use Rattle.std.specs.Prelude.{◌≡◌, ◌≢◌, ℕ, ◌<◌, List}
use Rattle.lrc_trace.specs.declared.act.Act.{Act}
use Rattle.lrc_trace.specs.declared.act.Deed.TheVariants.{Read, Write}
use Rattle.lrc_trace.specs.Run.{IsDone}
use Rattle.lrc_judge.specs.declared.in_order.OutOfOrder.{OutOfOrder}

-- The value of the last write to the word before position j, or 0 where there is none.
pub record IsLastWritten (run : List Act) (j word value : ℕ) : Type 0 where
  pub none : ((i v : ℕ) → i < j → ¬ IsDone run i (Write word v)) → value ≡ 0
  pub last : (i v : ℕ) → i < j → IsDone run i (Write word v)
      → ((k u : ℕ) → i < k → k < j → ¬ IsDone run k (Write word u)) → value ≡ v

-- every read of the run gives the value of the last write before it
abbrev pub ReadsLastWritten : List Act → Type 0
ReadsLastWritten run = (j word value : ℕ) → IsDone run j (Read word value) → IsLastWritten run j word value

-- the first read that does not, and what was last written
pub record IsFirstOutOfOrder (run : List Act) (first : OutOfOrder) : Type 0 where
  pub word : ℕ
  pub value : ℕ
  pub read : IsDone run first.position (Read word value)
  pub written : IsLastWritten run first.position word first.last_written
  pub apart : value ≢ first.last_written
  pub earlier : (j w v : ℕ) → j < first.position → IsDone run j (Read w v) → IsLastWritten run j w v
