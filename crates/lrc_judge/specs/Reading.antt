-- Where a run breaks lazy reading.
use Rattle.std.specs.Prelude.{ℕ, ◌<◌, ◌↔◌, IsTrue, List}
use Rattle.std.specs.BTreeSet.{BTreeSet, contains}
use Rattle.std.specs.Ordering.{nat_cmp}
use Rattle.lrc_trace.specs.declared.act.Act.{Act}
use Rattle.lrc_trace.specs.declared.act.Deed.TheVariants.{Read}
use Rattle.lrc_trace.specs.Run.{IsDone}
use Rattle.lrc_trace.specs.Reading.{MayRead}

-- at position j a read gives a value that it may not give
pub record Misreads (run : List Act) (j : ℕ) : Type 0 where
  pub word : ℕ
  pub value : ℕ
  pub read : IsDone run j (Read word value)
  pub refused : ¬ MayRead run j word value

-- the least position at which one does
pub record IsFirstMisread (run : List Act) (p : ℕ) : Type 0 where
  pub misread : Misreads run p
  pub earlier : (j word value : ℕ) → j < p → IsDone run j (Read word value) → MayRead run j word value

-- the words are those that are read before position n
abbrev pub AreRead : List Act → ℕ → BTreeSet ℕ → Type 0
AreRead run n words = (word : ℕ) → IsTrue (contains nat_cmp words word) ↔ ((j value : ℕ) × (j < n) × IsDone run j (Read word value))
