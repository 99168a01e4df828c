-- A node in a collection: it repairs the pages that it keeps, and then drops what was collected.
use Rattle.std.specs.Prelude.{◌≡◌, ℕ, ◌<◌, ◌&&◌, Bool, true, false, not, List, Option, Some, None, length, slice_index, if◌then◌else◌}
use Rattle.lrc_page.specs.declared.size.Size.{Size}
use Rattle.lrc_page.specs.Page.{words_of}
use Rattle.lrc_store.specs.Store.{StoredRecord, intervals_of}
use Rattle.lrc_protocol.specs.Times.{is_named}
use Rattle.lrc_protocol.specs.Pages.{Copy, valid, invalid, is_readable, Memory, copy_at}
use Rattle.lrc_reading_laws.specs.Written.{word_on}
use Rattle.lrc_exact.specs.Rule.{Shape, Knowledge, State, page_of, keeper_of}
use Rattle.lrc_exact_collected.specs.Keepers.{StoresWhatIsKnown}
use Rattle.lrc_exact_pages.specs.Pages.{IsNamedBetween}

-- ---- a node repairs the pages that it keeps

-- A node has accessed these pages, as far as they were stale.
abbrev pub with_kept : Shape → (ℕ → Bool) → State → State
with_kept shape kept state =
    record state {
      words = λ word.
          if state.stale (page_of shape word) && kept (page_of shape word) then record (state.words word) { mark = None } else state.words word;
      stale = λ page. state.stale page && not (kept page);
    }

-- The copy of a page stays, where the page is not kept or may be read already; or it becomes valid with the exact memory's values.
pub data IsRepairedTo (size : Size) (state : State) (page : ℕ) (kept : Bool) (before : Copy) : Copy → Type 0 where
  stays : (kept ≡ true → is_readable before ≡ true) → IsRepairedTo size state page kept before before
  is_made : (values : List ℕ) → kept ≡ true → is_readable before ≡ false
      → ((offset : ℕ) → offset < words_of size → slice_index values offset ≡ (state.words (word_on size page offset)).value)
      → IsRepairedTo size state page kept before (valid values)

-- A node with this time and memory repairs the pages that it keeps, each of which was named since the last collection:
pub record IsKeeping (size : Size) (made : List StoredRecord) (time : List ℕ) (memory after : Memory) (state : State) (kept : ℕ → Bool) : Type 0 where
  pub long : length after.copies ≡ length memory.copies
  pub collected : after.collected ≡ memory.collected
  pub within : (page : ℕ) → kept page ≡ true → page < length memory.copies
  pub named : (page : ℕ) → kept page ≡ true → IsNamedBetween made page memory.collected time
  pub repaired : (page : ℕ) → IsRepairedTo size state page (kept page) (copy_at memory page) (copy_at after page)

-- ---- it drops what was collected

-- Nodes arrived with these states, of which all this is known. A node with this time and memory, that arrived with this state and has repaired
-- the pages that it keeps, drops what was collected:
pub record IsDiscarding (size : Size) (nodes : ℕ) (made : List StoredRecord) (me : ℕ) (time : List ℕ) (memory : Memory) (state : State)
    (all : Knowledge) (arrived : ℕ → Option State) (kept : ℕ → Bool) : Type 0 where
  -- it knows what is known, and stores of it what was not dropped;
  pub time_is : all.time ≡ time
  pub stores : StoresWhatIsKnown size nodes made memory.collected all memory.store
  pub among : me < nodes
  pub here : arrived me ≡ Some state
  -- it is the keeper of what it keeps, and all that may be read;
  pub own : (page : ℕ) → kept page ≡ true → keeper_of nodes state.dropped all page ≡ me
  pub readable : (page : ℕ) → kept page ≡ true → is_readable (copy_at memory page) ≡ true
  -- and a copy became invalid only by an interval that is stored still.
  pub named : (page : ℕ) (values since : List ℕ) → copy_at memory page ≡ invalid values since → is_named (intervals_of memory.store) page ≡ true
