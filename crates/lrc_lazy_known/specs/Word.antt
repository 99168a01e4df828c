-- What is kept of the writes of one word that are known, for each who knows.
use Rattle.std.specs.Prelude.{◌≡◌, ◌≢◌, ℕ, ◌+◌, ◌<◌, ◌≤◌, ◌⊎◌, ◌↔◌, ◌==◌, ◌&&◌, ◌||◌, Bool, true, false, Option, Some, None, List, [], if◌then◌else◌, nat_lt, slice_get, slice_index_or, Contains}
use Rattle.lrc_lazy_known.specs.declared.known.Last.{Last}
use Rattle.lrc_lazy_known.specs.declared.known.Last.TheVariants.{Nothing, Value, Unordered}
use Rattle.lrc_lazy_known.specs.declared.known.Known.{Known}
use Rattle.lrc_lazy_known.specs.declared.word.Source.{Source}
use Rattle.lrc_lazy_known.specs.declared.word.Source.TheVariants.{Own, Taught, Neither}

-- ---- what is kept of one of them; nothing is known where nothing is kept

abbrev pub last_in : Option Known → Last
last_in None = Nothing
last_in (Some known) = known.last

abbrev pub values_in : Option Known → List ℕ
values_in None = []
values_in (Some known) = known.values.value.items

abbrev pub row_in : Option Known → List Bool
row_in None = []
row_in (Some known) = known.above.items

abbrev pub last_of : List Known → ℕ → Last
last_of word knower = last_in (slice_get word knower)

abbrev pub values_of : List Known → ℕ → List ℕ
values_of word knower = values_in (slice_get word knower)

abbrev pub row_of : List Known → ℕ → List Bool
row_of word knower = row_in (slice_get word knower)

abbrev pub is_above : List Known → ℕ → ℕ → Bool
is_above word knower other = slice_index_or (row_of word knower) other false

-- ---- what it says of sets of writes, by position and value, under an order of the positions

-- any two of the writes are ordered
abbrev pub AreChained : (ℕ → ℕ → Type 0) → (ℕ → ℕ → Type 0) → Type 0
AreChained before writes = (i k u v : ℕ) → writes i u → writes k v → i < k → before i k

-- the writes are ordered, and this is the last of them
pub record IsLastOf (before writes : ℕ → ℕ → Type 0) (i v : ℕ) : Type 0 where
  pub written : writes i v
  pub last : (k u : ℕ) → writes k u → k ≤ i
  pub chained : AreChained before writes

-- what is kept of the last of the writes
abbrev pub IsLast : (before writes : ℕ → ℕ → Type 0) → Last → Type 0
IsLast before writes Nothing = (i v : ℕ) → writes i v → ⊥
IsLast before writes (Value v) = (i : ℕ) × IsLastOf before writes i v
IsLast before writes Unordered = AreChained before writes → ⊥

-- the last write of the one is among those of the other
pub record HasLast (before one other : ℕ → ℕ → Type 0) : Type 0 where
  pub i : ℕ
  pub v : ℕ
  pub last : IsLastOf before one i v
  pub has : other i v

-- what is kept is that of what each knows
pub record Describes (before : ℕ → ℕ → Type 0) (known : ℕ → ℕ → ℕ → Type 0) (word : List Known) : Type 0 where
  pub lasts : (k : ℕ) → IsLast before (known k) (last_of word k)
  pub values : (k v : ℕ) → Contains (values_of word k) v ↔ ((i : ℕ) × known k i v)
  pub above : (k z : ℕ) → (is_above word k z ≡ true) ↔ HasLast before (known z) (known k)

-- ---- what is kept after one of them learns what another knows

abbrev pub source_by : Last → Last → (has_it is_had : Bool) → Source
source_by own Nothing has_it is_had = Own
source_by Nothing taught has_it is_had = Taught
source_by (Value u) (Value v) true is_had = Own
source_by (Value u) (Value v) false true = Taught
source_by _ _ _ _ = Neither

abbrev pub source_of : List Known → (learner teacher : ℕ) → Source
source_of word learner teacher =
    source_by (last_of word learner) (last_of word teacher) (is_above word learner teacher) (is_above word teacher learner)

abbrev pub last_by : Source → Last → Last → Last
last_by Own own taught = own
last_by Taught own taught = taught
last_by Neither own taught = Unordered

-- whether one then knows the last write that another had
abbrev pub above_then : List Known → (learner teacher k z : ℕ) → Bool
above_then word learner teacher k z = is_above word k z || ((k == learner) && is_above word teacher z)

-- and the last write that the learner then has
abbrev pub above_by : Source → List Known → (learner teacher k : ℕ) → Bool
above_by Own word learner teacher k = above_then word learner teacher k learner
above_by Taught word learner teacher k = above_then word learner teacher k teacher
above_by Neither word learner teacher k = false

abbrev pub above_learned : List Known → (learner teacher k z : ℕ) → Bool
above_learned word learner teacher k z =
    if z == learner then above_by (source_of word learner teacher) word learner teacher k else above_then word learner teacher k z

pub record IsLearned (word : List Known) (learner teacher : ℕ) (after : List Known) : Type 0 where
  pub others : (k : ℕ) → k ≢ learner → last_of after k ≡ last_of word k
  pub last : last_of after learner ≡ last_by (source_of word learner teacher) (last_of word learner) (last_of word teacher)
  pub values : (k v : ℕ) → Contains (values_of after k) v ↔ (Contains (values_of word k) v ⊎ ((k ≡ learner) × Contains (values_of word teacher) v))
  pub above : (k z : ℕ) → is_above after k z ≡ above_learned word learner teacher k z

-- ---- what is kept after one of them writes

abbrev pub last_then : Last → ℕ → Last
last_then Unordered value = Unordered
last_then _ value = Value value

abbrev pub is_ordered : Last → Bool
is_ordered Unordered = false
is_ordered _ = true

abbrev pub above_written : List Known → (writer k z : ℕ) → Bool
above_written word writer k z = if z == writer then (k == writer) && is_ordered (last_of word writer) else is_above word k z

pub record IsWritten (word : List Known) (writer value : ℕ) (after : List Known) : Type 0 where
  pub others : (k : ℕ) → k ≢ writer → last_of after k ≡ last_of word k
  pub last : last_of after writer ≡ last_then (last_of word writer) value
  pub values : (k v : ℕ) → Contains (values_of after k) v ↔ (Contains (values_of word k) v ⊎ ((k ≡ writer) × (v ≡ value)))
  pub above : (k z : ℕ) → is_above after k z ≡ above_written word writer k z

-- ---- what is kept where nothing changes

pub record IsSame (word after : List Known) : Type 0 where
  pub lasts : (k : ℕ) → last_of after k ≡ last_of word k
  pub values : (k v : ℕ) → Contains (values_of after k) v ↔ Contains (values_of word k) v
  pub above : (k z : ℕ) → is_above after k z ≡ is_above word k z

-- ---- what is kept where some are dropped: so many, whose numbers begin at the first

-- the number that one had before
abbrev pub number_before : (first count k : ℕ) → ℕ
number_before first count k = if nat_lt k first then k else k + count

pub record IsWithout (first count : ℕ) (word left : List Known) : Type 0 where
  pub lasts : (k : ℕ) → last_of left k ≡ last_of word (number_before first count k)
  pub values : (k v : ℕ) → Contains (values_of left k) v ↔ Contains (values_of word (number_before first count k)) v
  pub above : (k z : ℕ) → is_above left k z ≡ is_above word (number_before first count k) (number_before first count z)

-- ---- what may be read: the last value where they are ordered, 0 of none, else 0 or any one's

abbrev pub MayGive : Last → List ℕ → ℕ → Type 0
MayGive Nothing values v = v ≡ 0
MayGive (Value last) values v = v ≡ last
MayGive Unordered values v = (v ≡ 0) ⊎ Contains values v

abbrev pub Gives : List Known → (knower value : ℕ) → Type 0
Gives word knower value = MayGive (last_of word knower) (values_of word knower) value
