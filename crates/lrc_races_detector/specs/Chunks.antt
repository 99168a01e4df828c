-- Entries in chunks of 128.
use Rattle.std.specs.Prelude.{◌≡◌, ◌≢◌, ℕ, zero, suc, ◌+◌, ◌<◌, ◌≤◌, ◌*◌, ◌/◌, ◌%◌, List, [], ◌∷◌, Option, Some, None, Vec, length, max, slice_get, slice_index}
use Rattle.std.specs.declared.alloc.Global.{Global}
use Rattle.std.specs.declared.rc.Rc.{Rc}
use Rattle.lrc_races_detector.specs.declared.chunks.Chunk.{Chunk}

-- the values of a chunk; where there are none, none
abbrev pub listed : Option (Rc (Vec ℕ Global) Global) → List ℕ
listed (Some values) = values.value.items
listed None = []

-- an entry of a chunk: its value, and no less than the floor
abbrev pub entry_at : Chunk → ℕ → ℕ
entry_at chunk place = max chunk.floor (slice_index (listed chunk.values) place)

-- where there is no chunk, there are no entries
abbrev pub entry_of : Option Chunk → ℕ → ℕ
entry_of (Some chunk) place = entry_at chunk place
entry_of None place = 0

abbrev pub entry_in : List Chunk → ℕ → ℕ → ℕ
entry_in chunks index place = entry_of (slice_get chunks index) place

-- what the chunks say of a thread
abbrev pub value_of : List Chunk → ℕ → ℕ
value_of chunks thread = entry_in chunks (thread / 128) (thread % 128)

-- the chunks that vectors share, where they share some
abbrev pub chunks_of : Option (Rc (Vec Chunk Global) Global) → List Chunk
chunks_of (Some chunks) = chunks.value.items
chunks_of None = []

-- the first values of a function
abbrev pub firsts : (ℕ → ℕ) → ℕ → List ℕ
firsts f zero = []
firsts f (suc count) = f 0 ∷ firsts (λ k. f (suc k)) count

-- all entries
abbrev pub values : List Chunk → List ℕ
values chunks = firsts (value_of chunks) (length chunks * 128)

-- the entries of the chunk are spelled out, but that this one is another
pub record IsSpelled (chunk : Chunk) (entries : List ℕ) (place value : ℕ) : Type 0 where
  pub here : slice_index entries place ≡ value
  pub others : (other : ℕ) → other < 128 → other ≢ place → slice_index entries other ≡ entry_at chunk other

-- this is the chunk, and all others are as before
pub record IsChunkPut (before after : List Chunk) (index : ℕ) (chunk : Chunk) : Type 0 where
  pub here : (place : ℕ) → entry_in after index place ≡ entry_at chunk place
  pub others : (other place : ℕ) → other ≢ index → entry_in after other place ≡ entry_in before other place

-- the chunk is joined with another, and all others are as before
pub record IsChunkJoined (before after : List Chunk) (index : ℕ) (more : Chunk) : Type 0 where
  pub long : index < length after
  pub here : (place : ℕ) → entry_in after index place ≡ max (entry_in before index place) (entry_at more place)
  pub others : (other place : ℕ) → other ≢ index → entry_in after other place ≡ entry_in before other place

-- the entry is at most this, and all others are as before
pub record IsLowered (before after : List ℕ) (thread most : ℕ) : Type 0 where
  pub here : slice_index after thread ≤ most
  pub others : (other : ℕ) → other ≢ thread → slice_index after other ≡ slice_index before other

-- the entries of one chunk are at least this, and all others are as before
pub record IsChunkRaised (before after : List ℕ) (chunk value : ℕ) : Type 0 where
  pub here : (thread : ℕ) → thread / 128 ≡ chunk → slice_index after thread ≡ max (slice_index before thread) value
  pub others : (thread : ℕ) → thread / 128 ≢ chunk → slice_index after thread ≡ slice_index before thread

-- the first so many chunks of the other are joined
pub record AreJoinedBelow (count : ℕ) (before more after : List Chunk) : Type 0 where
  pub long : count ≤ length after
  pub below : (index place : ℕ) → index < count → entry_in after index place ≡ max (entry_in before index place) (entry_in more index place)
  pub above : (index place : ℕ) → count ≤ index → entry_in after index place ≡ entry_in before index place

-- the first so many chunks are shared
pub record AreSharedBelow (count : ℕ) (more after : List Chunk) : Type 0 where
  pub long : length after ≡ count
  pub within : count ≤ length more
  pub same : (index place : ℕ) → index < count → entry_in after index place ≡ entry_in more index place

-- so many entries of a chunk are behind the list
pub record IsAppended (count : ℕ) (before : List ℕ) (chunk : Chunk) (after : List ℕ) : Type 0 where
  pub long : length after ≡ length before + count
  pub old : (place : ℕ) → place < length before → slice_index after place ≡ slice_index before place
  pub new : (place : ℕ) → place < count → slice_index after (length before + place) ≡ entry_at chunk place

-- a list has the entries of the first so many chunks
pub record IsListed (count : ℕ) (chunks : List Chunk) (list : List ℕ) : Type 0 where
  pub long : length list ≡ count * 128
  pub same : (thread : ℕ) → thread < count * 128 → slice_index list thread ≡ value_of chunks thread
