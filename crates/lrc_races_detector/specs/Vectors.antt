-- What vectors say, and what changes in one.
use Rattle.std.specs.Prelude.{◌≡◌, ◌≢◌, ◌==◌, if◌then◌else◌, ℕ, zero, suc, ◌≤◌, ◌<◌, List, [], ◌∷◌, Option, Some, None, length, max, option_copied, slice_get, slice_index}
use Rattle.lrc_races_detector.specs.declared.vectors.Entry.{Entry}
use Rattle.lrc_races_detector.specs.declared.vectors.Known.{Known}
use Rattle.lrc_races_detector.specs.declared.vectors.Vector.{Vector}
use Rattle.lrc_races_detector.specs.Chunks.{chunks_of, values}

-- the entry has this value, and all others are as before
pub record IsPut (before after : List ℕ) (thread value : ℕ) : Type 0 where
  pub here : slice_index after thread ≡ value
  pub others : (other : ℕ) → other ≢ thread → slice_index after other ≡ slice_index before other

-- the entry has at least this value, and all others are as before
pub record IsRaised (before after : List ℕ) (thread value : ℕ) : Type 0 where
  pub here : slice_index after thread ≡ max (slice_index before thread) value
  pub others : (other : ℕ) → other ≢ thread → slice_index after other ≡ slice_index before other

-- the first so many entries of the other vector are joined
pub record IsJoinedBelow (count : ℕ) (before more after : List ℕ) : Type 0 where
  pub long : count ≤ length after
  pub below : (thread : ℕ) → thread < count → slice_index after thread ≡ max (slice_index before thread) (slice_index more thread)
  pub above : (thread : ℕ) → count ≤ thread → slice_index after thread ≡ slice_index before thread

-- entries of which one has at least this value
abbrev pub raised_at : ℕ → ℕ → List ℕ → List ℕ
raised_at zero value [] = value ∷ []
raised_at zero value (x ∷ xs) = max x value ∷ xs
raised_at (suc thread) value [] = 0 ∷ raised_at thread value []
raised_at (suc thread) value (x ∷ xs) = x ∷ raised_at thread value xs

-- entries, and one that stands apart from them
abbrev pub with_apart : Option Entry → List ℕ → List ℕ
with_apart (Some entry) others = raised_at entry.thread entry.value others
with_apart None others = others

-- what the one that stands apart says of a thread
abbrev pub apart_at : Option Entry → ℕ → ℕ
apart_at (Some entry) thread = if entry.thread == thread then entry.value else 0
apart_at None thread = 0

-- what the first so many of some entries say of a thread, at most
abbrev pub greatest : List Entry → ℕ → ℕ → ℕ
greatest recent thread zero = 0
greatest recent thread (suc count) = max (apart_at (slice_get recent count) thread) (greatest recent thread count)

-- entries, of which the first so many of others are raised
abbrev pub with_first : List Entry → List ℕ → ℕ → List ℕ
with_first recent others zero = others
with_first recent others (suc count) = with_apart (slice_get recent count) (with_first recent others count)

-- of each thread the greater
abbrev pub joined : List ℕ → List ℕ → List ℕ
joined [] ys = ys
joined (x ∷ xs) [] = x ∷ xs
joined (x ∷ xs) (y ∷ ys) = max x y ∷ joined xs ys

-- all entries, but for the one that stands apart
abbrev pub rest : Vector → List ℕ
rest vector = with_first vector.recent.items (joined (values vector.others.items) (values (chunks_of vector.base))) (length vector.recent.items)

-- all entries
abbrev pub held : Vector → List ℕ
held vector = with_apart vector.apart (rest vector)

abbrev pub held_of : Option Vector → List ℕ
held_of (Some vector) = held vector
held_of None = []

abbrev pub entries : Known → List ℕ
entries known = held_of (option_copied known.vector)
