-- Locks: a node's time, the tokens that it has or awaits, and the locks that it manages. What becomes of one token is defined with
-- the crate of locks.
use Rattle.std.specs.Prelude.{ℕ, List}
use Rattle.lrc_time.specs.Time.{joined, zeros}
use Rattle.lrc_lock.specs.Held.{first_held, HeldRecord}
use Rattle.lrc_lock.specs.Managed.{first_managed, ManagedRecord}
use Rattle.lrc_protocol.specs.Times.{next_time}

-- the node's time, which counts closed intervals; what it knows of each lock's token; and who asked last for those it manages
pub record Locks : Type 0 where
  pub time : List ℕ
  pub held : HeldRecord
  pub managed : ManagedRecord

-- at the start nothing is closed, and each token is at its lock's manager
abbrev pub fresh_locks : ℕ → ℕ → ℕ → Locks
fresh_locks me nodes locks =
    record { time = zeros nodes; held = first_held me nodes locks; managed = first_managed me nodes locks }

-- the same, the open interval closed
abbrev pub ticked : ℕ → Locks → Locks
ticked me locks = record locks { time = next_time me locks.time }

-- the same, the time joined with another: the node knows what that one knows
abbrev pub with_joined_time : List ℕ → Locks → Locks
with_joined_time time locks = record locks { time = joined locks.time time }

-- the same with other tokens, or another note of who asked last
abbrev pub with_held : HeldRecord → Locks → Locks
with_held held locks = record locks { held = held }

abbrev pub with_managed : ManagedRecord → Locks → Locks
with_managed managed locks = record locks { managed = managed }
