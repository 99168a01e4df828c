-- Lazy reading: what a read may give, by the writes that happen before it.
use Rattle.std.specs.Prelude.{◌≡◌, ℕ, ◌<◌, ◌≤◌, ◌⊎◌, List}
use Rattle.lrc_trace.specs.declared.act.Act.{Act}
use Rattle.lrc_trace.specs.declared.act.Deed.TheVariants.{Read, Write}
use Rattle.lrc_trace.specs.Run.{IsDone}
use Rattle.lrc_trace.specs.Order.{HappensBefore}

-- at position i this value is written to the word, and that happens before position j
pub record WrittenBefore (run : List Act) (j word i value : ℕ) : Type 0 where
  pub write : IsDone run i (Write word value)
  pub before : HappensBefore run i j

-- The weak half: the value is 0, or that of a write that happens before.
abbrev pub IsSomeWrite : List Act → ℕ → ℕ → ℕ → Type 0
IsSomeWrite run j word value = (value ≡ 0) ⊎ ((i : ℕ) × WrittenBefore run j word i value)

-- any two of the writes that happen before j are related by happens before
abbrev pub AreOrdered : List Act → ℕ → ℕ → Type 0
AreOrdered run j word = (i k u v : ℕ) → WrittenBefore run j word i u → WrittenBefore run j word k v
    → i < k → HappensBefore run i k

-- i is the last of the writes that happen before j, and it writes this value
pub record IsLastWrite (run : List Act) (j word i value : ℕ) : Type 0 where
  pub written : WrittenBefore run j word i value
  pub last : (k v : ℕ) → WrittenBefore run j word k v → k ≤ i

-- The value of the last write that happens before j, or 0 where there are none.
pub record IsLatest (run : List Act) (j word value : ℕ) : Type 0 where
  pub none : ((i v : ℕ) → ¬ WrittenBefore run j word i v) → value ≡ 0
  pub last : (i v : ℕ) → IsLastWrite run j word i v → value ≡ v

-- the read of the word at j may give this value: both halves
pub record MayRead (run : List Act) (j word value : ℕ) : Type 0 where
  pub weak : IsSomeWrite run j word value
  pub strong : AreOrdered run j word → IsLatest run j word value

-- every read of the run gives a value that it may give
abbrev pub ReadsLazily : List Act → Type 0
ReadsLazily run = (j word value : ℕ) → IsDone run j (Read word value) → MayRead run j word value
