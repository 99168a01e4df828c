-- What holds of a node whose time and memory are those of a state of the exact memory.
use Rattle.std.specs.Prelude.{◌≡◌, ℕ, ◌<◌, true, None, List, [], ◌∷◌, ◌++◌, length, slice_index}
use Rattle.lrc_page.specs.declared.size.Size.{Size}
use Rattle.lrc_page.specs.Page.{words_of}
use Rattle.lrc_page.specs.Place.{page_of}
use Rattle.lrc_store.specs.Interval.{IntervalRecord}
use Rattle.lrc_store.specs.Store.{StoredRecord, StoreRecord, missing_of}
use Rattle.lrc_protocol.specs.Times.{next_time}
use Rattle.lrc_protocol.specs.Pages.{is_readable, values_of, changes_of, Memory, copy_at, with_copy, valid, value_at, with_written_word}
use Rattle.lrc_protocol.specs.Pages.{with_interval, learned, all_applied}
use Rattle.lrc_exact.specs.Memory.{Word}
use Rattle.lrc_exact.specs.Rule.{State, Knowledge, open_interval, closed, with_learned, accessed, with_write}
use Rattle.lrc_reading_laws.specs.Written.{word_on}
use Rattle.lrc_exact_known.specs.Learned.{TakesHighest}
use Rattle.lrc_exact_made.specs.Copies.{shape_of, unmarked, IsExactly, IsChangeBetween, HasExact}
use Rattle.lrc_exact_made.specs.Steps.{IsClosing, IsNewsTo, KnowsMissing}

-- The interval that it closes did what the exact memory says of its open interval,
abbrev pub ClosesExactly : Type 0
ClosesExactly = (size : Size) (made : List StoredRecord) (me : ℕ) (time : List ℕ) (memory : Memory) (state : State) (x : StoredRecord)
    → HasExact size made time memory state → IsClosing size made me time memory x
    → IsExactly size x (open_interval state)

-- and then the node has what the exact memory has once it has closed the interval.
abbrev pub HasExactOnceClosed : Type 0
HasExactOnceClosed = (size : Size) (made : List StoredRecord) (me : ℕ) (time : List ℕ) (memory : Memory) (state : State) (x : StoredRecord)
    → HasExact size made time memory state → IsClosing size made me time memory x
    → HasExact size (made ++ x ∷ []) (next_time me time) (with_interval me (next_time me time) memory) (closed me state)

-- It learns what the exact memory lets it learn.
abbrev pub LearnsExactly : Type 0
LearnsExactly = (size : Size) (nodes : ℕ) (made : List StoredRecord) (time : List ℕ) (memory : Memory) (state : State) (news : Knowledge)
    (intervals : List IntervalRecord) (after : List ℕ)
    → HasExact size made time memory state → IsNewsTo size nodes made time memory news intervals after
    → HasExact size made after (learned time intervals memory) (with_learned nodes news state)

-- A word on a page that may be read has the exact memory's value,
abbrev pub ReadsWhatIsExact : Type 0
ReadsWhatIsExact = (size : Size) (made : List StoredRecord) (time : List ℕ) (memory : Memory) (state : State) (word : ℕ)
    → HasExact size made time memory state → is_readable (copy_at memory (page_of word size)) ≡ true
    → value_at size memory word ≡ (state.words word).value

-- an access of such a page takes nothing away,
abbrev pub AccessesExactly : Type 0
AccessesExactly = (size : Size) (nodes collect : ℕ) (made : List StoredRecord) (time : List ℕ) (memory : Memory) (state : State) (page : ℕ)
    → HasExact size made time memory state → is_readable (copy_at memory page) ≡ true
    → HasExact size made time memory (accessed (shape_of nodes size collect) page state)

-- and a write changes both alike.
abbrev pub WritesExactly : Type 0
WritesExactly = (size : Size) (nodes collect : ℕ) (made : List StoredRecord) (time : List ℕ) (memory : Memory) (state : State) (word value : ℕ)
    → HasExact size made time memory state → is_readable (copy_at memory (page_of word size)) ≡ true
    → length (values_of (copy_at memory (page_of word size))) ≡ words_of size
    → HasExact size made time (with_written_word size word value memory) (with_write (shape_of nodes size collect) word value state)

-- The changes that an invalid copy lacks, applied in their order, give each word the exact memory's value,
abbrev pub RepairsExactly : Type 0
RepairsExactly = (made : List StoredRecord) (page : ℕ) (collected since time : List ℕ) (store : StoreRecord) (values : List ℕ) (offset : ℕ) (word : Word)
    → KnowsMissing made page collected since time store → offset < length values
    → TakesHighest (IsChangeBetween made page offset since time) (unmarked (slice_index values offset)) word
    → slice_index (all_applied store values (missing_of store page since)) offset ≡ word.value

-- and the page with these values is the one that the exact memory has once it is accessed.
abbrev pub MendsExactly : Type 0
MendsExactly = (size : Size) (nodes collect : ℕ) (made : List StoredRecord) (time : List ℕ) (memory : Memory) (state : State) (page : ℕ) (values : List ℕ)
    → HasExact size made time memory state → page < length memory.copies → changes_of (copy_at memory page) ≡ None
    → ((offset : ℕ) → offset < words_of size → slice_index values offset ≡ (state.words (word_on size page offset)).value)
    → HasExact size made time (with_copy memory page (valid values)) (accessed (shape_of nodes size collect) page state)
