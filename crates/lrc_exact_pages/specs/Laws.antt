-- What holds of a node whose pages are those of a state of the exact memory, where barriers collect.
use Rattle.std.specs.Prelude.{◌≡◌, ℕ, ◌<◌, true, None, List, [], ◌∷◌, ◌++◌, length, slice_index}
use Rattle.lrc_page.specs.declared.size.Size.{Size}
use Rattle.lrc_page.specs.Page.{words_of}
use Rattle.lrc_page.specs.Place.{page_of}
use Rattle.lrc_store.specs.Interval.{IntervalRecord}
use Rattle.lrc_store.specs.Store.{StoredRecord, missing_of}
use Rattle.lrc_time.specs.Time.{Covers}
use Rattle.lrc_protocol.specs.Times.{next_time}
use Rattle.lrc_protocol.specs.Pages.{is_readable, values_of, changes_of, absent, Memory, copy_at, with_copy, valid, with_written_word}
use Rattle.lrc_protocol.specs.Pages.{with_interval, learned, all_applied}
use Rattle.lrc_exact.specs.Rule.{State, Knowledge, closed, with_learned, accessed, with_write}
use Rattle.lrc_reading_laws.specs.Written.{word_on}
use Rattle.lrc_exact_made.specs.Copies.{shape_of}
use Rattle.lrc_exact_made.specs.Steps.{IsClosing, IsNewsTo, KnowsMissing}
use Rattle.lrc_exact_pages.specs.Pages.{HasPages, NamesNews}

-- It has so once it has closed its interval,
abbrev pub HasPagesOnceClosed : Type 0
HasPagesOnceClosed = (size : Size) (made : List StoredRecord) (fixed : ℕ → ℕ → ℕ) (me : ℕ) (time : List ℕ) (memory : Memory) (state : State)
    (x : StoredRecord)
    → HasPages size made fixed time memory state → IsClosing size made me time memory x
    → HasPages size (made ++ x ∷ []) fixed (next_time me time) (with_interval me (next_time me time) memory) (closed me state)

-- once it has learned news,
abbrev pub HasPagesOnceLearned : Type 0
HasPagesOnceLearned = (size : Size) (nodes : ℕ) (made : List StoredRecord) (fixed : ℕ → ℕ → ℕ) (time : List ℕ) (memory : Memory) (state : State)
    (news : Knowledge) (intervals : List IntervalRecord) (after : List ℕ)
    → HasPages size made fixed time memory state → IsNewsTo size nodes made time memory news intervals after → NamesNews made time after intervals
    → Covers time memory.collected
    → HasPages size made fixed after (learned time intervals memory) (with_learned nodes news state)

-- once it has looked at a page that may be read,
abbrev pub HasPagesOnceAccessed : Type 0
HasPagesOnceAccessed = (size : Size) (nodes collect : ℕ) (made : List StoredRecord) (fixed : ℕ → ℕ → ℕ) (time : List ℕ) (memory : Memory) (state : State)
    (page : ℕ)
    → HasPages size made fixed time memory state → is_readable (copy_at memory page) ≡ true
    → HasPages size made fixed time memory (accessed (shape_of nodes size collect) page state)

-- written to one,
abbrev pub HasPagesOnceWritten : Type 0
HasPagesOnceWritten = (size : Size) (nodes collect : ℕ) (made : List StoredRecord) (fixed : ℕ → ℕ → ℕ) (time : List ℕ) (memory : Memory) (state : State)
    (word value : ℕ)
    → HasPages size made fixed time memory state → is_readable (copy_at memory (page_of word size)) ≡ true
    → length (values_of (copy_at memory (page_of word size))) ≡ words_of size
    → HasPages size made fixed time (with_written_word size word value memory) (with_write (shape_of nodes size collect) word value state)

-- and once a page has become valid with the exact memory's values.
abbrev pub HasPagesOnceMended : Type 0
HasPagesOnceMended = (size : Size) (nodes collect : ℕ) (made : List StoredRecord) (fixed : ℕ → ℕ → ℕ) (time : List ℕ) (memory : Memory) (state : State)
    (page : ℕ) (values : List ℕ)
    → HasPages size made fixed time memory state → page < length memory.copies → changes_of (copy_at memory page) ≡ None
    → ((offset : ℕ) → offset < words_of size → slice_index values offset ≡ (state.words (word_on size page offset)).value)
    → HasPages size made fixed time (with_copy memory page (valid values)) (accessed (shape_of nodes size collect) page state)

-- A base copy has what the last collection left. With the changes that came since, applied in their order, it has the exact memory's values.
abbrev pub RepairsWhatWasDropped : Type 0
RepairsWhatWasDropped = (size : Size) (made : List StoredRecord) (fixed : ℕ → ℕ → ℕ) (time : List ℕ) (memory : Memory) (state : State) (page : ℕ)
    (base : List ℕ)
    → HasPages size made fixed time memory state → page < length memory.copies → copy_at memory page ≡ absent
    → KnowsMissing made page memory.collected memory.collected time memory.store → length base ≡ words_of size
    → ((offset : ℕ) → offset < words_of size → slice_index base offset ≡ fixed page offset)
    → (offset : ℕ) → offset < words_of size
    → slice_index (all_applied memory.store base (missing_of memory.store page memory.collected)) offset ≡ (state.words (word_on size page offset)).value
