-- What closed intervals changed, and what a node has of the pages, where both are as the exact memory has them.
use Rattle.std.specs.Prelude.{◌≡◌, ℕ, ◌<◌, ◌≤◌, Option, Some, None, is_some, unwrap_or, List, Contains, slice_index}
use Rattle.lrc_time.specs.Time.{entry, weight_of}
use Rattle.lrc_page.specs.declared.size.Size.{Size}
use Rattle.lrc_page.specs.Page.{words_of}
use Rattle.lrc_page.specs.Changes.{change_at}
use Rattle.lrc_store.specs.Store.{StoredRecord, notice_of}
use Rattle.lrc_copies.specs.Stamps.{stamp_index}
use Rattle.lrc_protocol.specs.Pages.{Copy, valid, written, invalid, absent, changes_of, Memory, copy_at}
use Rattle.lrc_exact.specs.Memory.{Rank, Word, Interval}
use Rattle.lrc_exact.specs.Rule.{Shape, Knowledge, State}
use Rattle.lrc_exact_known.specs.Learned.{TakesHighest}
use Rattle.lrc_reading_laws.specs.Written.{made_stamps, word_on, changes_on}

-- the exact memory of so many nodes, with pages of this size
abbrev pub shape_of : ℕ → Size → ℕ → Shape
shape_of nodes size collect = record { nodes = nodes; size = words_of size; collect = collect }

-- ---- intervals

-- A closed interval did what the exact memory says of it: it has that weight, of each word of each page that change, if any, and those
-- pages.
pub record IsExactly (size : Size) (x : StoredRecord) (interval : Interval) : Type 0 where
  pub weight : interval.weight ≡ weight_of x.stamp
  pub changed : (page offset : ℕ) → offset < words_of size
      → interval.changed (word_on size page offset) ≡ change_at (changes_on page x) offset
  pub names : (page : ℕ) → interval.names page ≡ is_some (notice_of page x)

-- each interval that is known did what is known of it
pub record AreExactly (size : Size) (made : List StoredRecord) (knows : Knowledge) : Type 0 where
  pub each : (x : StoredRecord) → Contains made x → stamp_index made_stamps x ≤ entry knows.time x.node
      → IsExactly size x (knows.interval x.node (stamp_index made_stamps x))

-- an interval that the second time covers and the first does not changed the word at the offset of the page to the value, and has the
-- rank
pub record IsChangeBetween (made : List StoredRecord) (page offset : ℕ) (since upto : List ℕ) (rank : Rank) (value : ℕ) : Type 0 where
  pub interval : StoredRecord
  pub member : Contains made interval
  pub later : entry since interval.node < stamp_index made_stamps interval
  pub known : stamp_index made_stamps interval ≤ entry upto interval.node
  pub ranked : rank ≡ record { weight = weight_of interval.stamp; node = interval.node }
  pub changed : change_at (changes_on page interval) offset ≡ Some value

-- ---- copies

-- a word that was accessed last, and has this value
abbrev pub unmarked : ℕ → Word
unmarked value = record { value = value; mark = None }

-- What the exact memory has of a word on a page of which a node has this copy, at the node's time; and what it keeps of the word from
-- before the open interval's first write:
abbrev pub HasWord : List StoredRecord → List ℕ → (page offset : ℕ) → Copy → Word → Option ℕ → Type 0
-- the value in a valid copy,
HasWord made time page offset (valid values) word before = (word ≡ unmarked (slice_index values offset)) × (before ≡ None)
-- or in a written one, whose twin has what is kept, or else that value;
HasWord made time page offset (written values twin) word before =
    (word ≡ unmarked (slice_index values offset)) × (slice_index twin offset ≡ unwrap_or before (slice_index values offset))
-- for an invalid copy the value in the copy, with the highest of the changes that came since the time that is remembered.
HasWord made time page offset (invalid values since) word before =
    TakesHighest (IsChangeBetween made page offset since time) (unmarked (slice_index values offset)) word × (before ≡ None)
HasWord made time page offset absent word before = before ≡ None

-- A node's time and memory are those of a state of the exact memory, where these intervals were made:
pub record HasExact (size : Size) (made : List StoredRecord) (time : List ℕ) (memory : Memory) (state : State) : Type 0 where
  pub time_is : state.knows.time ≡ time
  -- of each word of each page,
  pub copies : (page offset : ℕ) → offset < words_of size
      → HasWord made time page offset (copy_at memory page) (state.words (word_on size page offset)) (state.before (word_on size page offset))
  -- of which pages the open interval wrote,
  pub written : (page : ℕ) → state.written page ≡ is_some (changes_of (copy_at memory page))
  -- and of what each known interval did.
  pub knows : AreExactly size made state.knows
