-- From a copy that fits to a read of a run: when a list of intervals has the writes that happen before the read.
use Rattle.std.specs.Prelude.{◌≡◌, ◌≢◌, ℕ, ◌<◌, ◌≤◌, ◌⊎◌, ◌↔◌, IsTrue, Option, Some, None, List, Contains}
use Rattle.lrc_trace.specs.declared.act.Act.{Act}
use Rattle.lrc_trace.specs.declared.act.Deed.{Deed}
use Rattle.lrc_trace.specs.declared.act.Deed.TheVariants.{Write}
use Rattle.lrc_trace.specs.Run.{Does}
use Rattle.lrc_trace.specs.Order.{HappensBefore}
use Rattle.lrc_trace.specs.Interval.{interval_at}
use Rattle.lrc_trace.specs.Reading.{WrittenBefore}
use Rattle.lrc_time.specs.Time.{entry}
use Rattle.lrc_copies.specs.Word.{WordHistory, IsWriter}
use Rattle.lrc_copies.specs.Stamps.{Stamps, stamp_index, stamps_covered}

-- ---- in any intervals

-- of the interval's writes that happen before position j, i is the last, with this value
pub record IsLastOf (run : List Act) (j word : ℕ) (inside : ℕ → Type 0) (i value : ℕ) : Type 0 where
  pub written : WrittenBefore run j word i value
  pub in_it : inside i
  pub last : (k v : ℕ) → WrittenBefore run j word k v → inside k → k ≤ i

-- The list has the writes to the word that happen before position j, where `inside a` is the set of an interval's positions:
pub record HasWritesBefore {A : Type 0} (run : List Act) (j word : ℕ) (w : WordHistory A) (inside : A → ℕ → Type 0) (xs : List A)
    : Type 0 where
  -- each is in a member that wrote the word,
  pub complete : (i value : ℕ) → WrittenBefore run j word i value → (a : A) × (last : ℕ) × IsWriter w xs a last × inside a i
  -- none is in two members,
  pub one : (a b : A) (i : ℕ) → Contains xs a → Contains xs b → inside a i → inside b i → a ≡ b
  -- what a member wrote last is the value of the last of them in it,
  pub wrote : (a : A) (value : ℕ) → IsWriter w xs a value → (i : ℕ) × IsLastOf run j word (inside a) i value
  -- and where one in a member happens before one in another, the first member is below the second.
  pub ordered : (a b : A) (i k u v : ℕ) → IsWriter w xs a u → IsWriter w xs b v → inside a i → inside b k → HappensBefore run i k
      → (a ≡ b) ⊎ IsTrue (w.below a b)

-- ---- in stamped intervals

-- of the node's writes before position j in its interval with this index, i is the last, with this value
pub record IsLastWriteIn (run : List Act) (j word node index i value : ℕ) : Type 0 where
  pub write : Does run i node (Write word value)
  pub earlier : i < j
  pub inside : interval_at run node i ≡ index
  pub last : (k v : ℕ) → k < j → Does run k node (Write word v) → interval_at run node k ≡ index → k ≤ i

-- A node's act at position j, at this time, has before it what the list of stamped intervals says of the word:
pub record ListsWrites {A : Type 0} (run : List Act) (j node word : ℕ) (s : Stamps A) (wrote : A → Option ℕ) (time : List ℕ) (xs : List A)
    : Type 0 where
  pub deed : Deed
  pub acts : Does run j node deed
  -- an act of another node happens before it exactly where the time covers its interval;
  pub cover : (i other : ℕ) (d : Deed) → other ≢ node → Does run i other d
      → HappensBefore run i j ↔ (interval_at run other i ≤ entry time other)
  -- every earlier write of the node itself or in an interval that the time covers is in a member,
  pub listed : (i other value : ℕ) → i < j → Does run i other (Write word value)
      → (other ≡ node) ⊎ (interval_at run other i ≤ entry time other)
      → (a : A) × Contains xs a × (s.node a ≡ other) × (stamp_index s a ≡ interval_at run other i)
  -- and the members are intervals of the node or such as the time covers, each there as one alone;
  pub known : (a : A) → Contains xs a → (s.node a ≡ node) ⊎ IsTrue (stamps_covered s time a)
  pub one : (a b : A) → Contains xs a → Contains xs b → s.node a ≡ s.node b → stamp_index s a ≡ stamp_index s b → a ≡ b
  -- what a member wrote is its last write, and where it wrote nothing it has none;
  pub wrote_last : (a : A) (value : ℕ) → Contains xs a → wrote a ≡ Some value
      → (i : ℕ) × IsLastWriteIn run j word (s.node a) (stamp_index s a) i value
  pub wrote_none : (a : A) → Contains xs a → wrote a ≡ None
      → (i value : ℕ) → i < j → Does run i (s.node a) (Write word value) → interval_at run (s.node a) i ≢ stamp_index s a
  -- and a member's stamp covers another node's member where a write in that one happens before a write in it.
  pub stamped : (a b : A) (i k u v : ℕ) → Contains xs a → Contains xs b → s.node a ≢ s.node b
      → Does run i (s.node a) (Write word u) → interval_at run (s.node a) i ≡ stamp_index s a
      → Does run k (s.node b) (Write word v) → interval_at run (s.node b) k ≡ stamp_index s b
      → HappensBefore run i k → IsTrue (stamps_covered s (s.stamp b) a)
