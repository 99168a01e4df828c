-- What holds of a node in a collection, whose pages are those of a state of the exact memory.
use Rattle.std.specs.Prelude.{◌≡◌, ℕ, ◌<◌, Bool, false, List, Option, Some}
use Rattle.lrc_page.specs.declared.size.Size.{Size}
use Rattle.lrc_page.specs.Page.{words_of}
use Rattle.lrc_store.specs.Store.{StoredRecord, intervals_of}
use Rattle.lrc_protocol.specs.Times.{is_named}
use Rattle.lrc_protocol.specs.Pages.{Memory}
use Rattle.lrc_protocol.specs.Barriers.{after_collection}
use Rattle.lrc_reading_laws.specs.Written.{word_on}
use Rattle.lrc_exact.specs.Rule.{State, Knowledge, with_learned, collected, keeper_of}
use Rattle.lrc_exact_made.specs.Copies.{shape_of}
use Rattle.lrc_exact_collected.specs.Keepers.{StoresWhatIsKnown}
use Rattle.lrc_exact_pages.specs.Pages.{HasPages}
use Rattle.lrc_exact_collecting.specs.Left.{left_after}
use Rattle.lrc_exact_collecting.specs.Kept.{with_kept, IsKeeping, IsDiscarding}

-- It goes on to have what the exact memory has once it has repaired the pages that it keeps,
abbrev pub HasPagesOnceKept : Type 0
HasPagesOnceKept = (size : Size) (nodes collect : ℕ) (made : List StoredRecord) (fixed : ℕ → ℕ → ℕ) (time : List ℕ) (memory after : Memory) (state : State)
    (kept : ℕ → Bool)
    → HasPages size made fixed time memory state → IsKeeping size made time memory after state kept
    → HasPages size made fixed time after (with_kept (shape_of nodes size collect) kept state)

-- and once it has dropped what was collected, where the collection left of each word what the keepers have.
abbrev pub HasPagesOnceDiscarded : Type 0
HasPagesOnceDiscarded = (size : Size) (nodes collect : ℕ) (made : List StoredRecord) (left : ℕ → ℕ) (me : ℕ) (time : List ℕ) (memory : Memory)
    (state : State) (all : Knowledge) (arrived : ℕ → Option State) (kept : ℕ → Bool)
    → HasPages size made (λ page offset. left (word_on size page offset)) time memory (with_kept (shape_of nodes size collect) kept (with_learned nodes all state))
    → IsDiscarding size nodes made me time memory state all arrived kept
    → HasPages size made (λ page offset. left_after (shape_of nodes size collect) state.dropped all arrived left (word_on size page offset)) time
    (after_collection me all.time memory) (collected (shape_of nodes size collect) all arrived (with_learned nodes all state))

-- What a collection leaves of a page is what its keeper has of it once it has learned,
abbrev pub LeavesWhatIsKept : Type 0
LeavesWhatIsKept = (size : Size) (nodes collect : ℕ) (left : ℕ → ℕ) (me : ℕ) (state : State) (all : Knowledge) (arrived : ℕ → Option State)
    (kept : ℕ → Bool) (page offset : ℕ) → offset < words_of size
    → me < nodes → arrived me ≡ Some state → keeper_of nodes state.dropped all page ≡ me
    → (((with_kept (shape_of nodes size collect) kept (with_learned nodes all state)).words (word_on size page offset)).value
    ≡ left_after (shape_of nodes size collect) state.dropped all arrived left (word_on size page offset))

-- and of a page that no interval named what was left before.
abbrev pub LeavesWhatWasLeft : Type 0
LeavesWhatWasLeft = (size : Size) (nodes collect : ℕ) (made : List StoredRecord) (left : ℕ → ℕ) (dropped : List ℕ) (all : Knowledge)
    (arrived : ℕ → Option State) (memory : Memory) (page offset : ℕ) → offset < words_of size
    → StoresWhatIsKnown size nodes made dropped all memory.store → is_named (intervals_of memory.store) page ≡ false
    → left_after (shape_of nodes size collect) dropped all arrived left (word_on size page offset) ≡ left (word_on size page offset)
