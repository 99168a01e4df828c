-- Steady reading: which of the writes that happen before it a read gives, and for how long.
use Rattle.std.specs.Prelude.{◌≡◌, ℕ, ◌<◌, ◌≤◌, ◌==◌, Bool, true, false, List}
use Rattle.lrc_trace.specs.declared.act.Act.{Act}
use Rattle.lrc_trace.specs.declared.act.Deed.{Deed}
use Rattle.lrc_trace.specs.declared.act.Deed.TheVariants.{Read, Write, Acquire, Depart}
use Rattle.lrc_trace.specs.Run.{Does, IsDone}
use Rattle.lrc_trace.specs.Interval.{interval_at}
use Rattle.lrc_trace.specs.Reading.{WrittenBefore}

-- the two positions are of one node, in one interval
pub record AreInOneInterval (run : List Act) (i k : ℕ) : Type 0 where
  pub node : ℕ
  pub deed : Deed
  pub first : Does run i node deed
  pub other : Deed
  pub second : Does run k node other
  pub same : interval_at run node i ≡ interval_at run node k

-- at i this value is written to the word, which happens before j, and no later write of the interval does
pub record IsLastInInterval (run : List Act) (j word i value : ℕ) : Type 0 where
  pub written : WrittenBefore run j word i value
  pub last : (k v : ℕ) → WrittenBefore run j word k v → AreInOneInterval run k i → k ≤ i

-- The value is that of a write that happens before j and is the last in its interval, or 0 where none happens before j.
pub record IsSteadyValue (run : List Act) (j word value : ℕ) : Type 0 where
  pub none : ((i v : ℕ) → ¬ WrittenBefore run j word i v) → value ≡ 0
  pub some : (i v : ℕ) → WrittenBefore run j word i v → (k : ℕ) × IsLastInInterval run j word k value

-- whether a node may read another value of the word after a deed of its own: a write of the word, an acquire, a depart
abbrev pub may_change : ℕ → Deed → Bool
may_change word (Write w v) = w == word
may_change word (Acquire l) = true
may_change word Depart = true
may_change word _ = false

-- Reads are steady: each gives such a value, and two of a node give the same until it writes the word, acquires or departs.
pub record ReadsSteadily (run : List Act) : Type 0 where
  pub gives : (j word value : ℕ) → IsDone run j (Read word value) → IsSteadyValue run j word value
  pub stays : (i j node word u v : ℕ) → i < j → Does run i node (Read word u) → Does run j node (Read word v)
      → ((k : ℕ) (d : Deed) → i < k → k < j → Does run k node d → may_change word d ≡ false) → u ≡ v
