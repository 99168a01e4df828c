-- What the exact memory says of a node's pages where barriers collect: which are stale, and what stands for a copy that was dropped.
use Rattle.std.specs.Prelude.{◌≡◌, ◌↔◌, ℕ, ◌<◌, ◌≤◌, true, false, is_some, List, Contains, length}
use Rattle.lrc_time.specs.Time.{entry}
use Rattle.lrc_page.specs.declared.size.Size.{Size}
use Rattle.lrc_page.specs.Page.{words_of}
use Rattle.lrc_store.specs.Interval.{IntervalRecord}
use Rattle.lrc_store.specs.Store.{StoredRecord, notice_of}
use Rattle.lrc_copies.specs.Stamps.{stamp_index}
use Rattle.lrc_protocol.specs.Times.{is_named}
use Rattle.lrc_protocol.specs.Pages.{Copy, valid, written, invalid, absent, Memory, copy_at}
use Rattle.lrc_reading_laws.specs.Written.{made_stamps, word_on}
use Rattle.lrc_exact.specs.Rule.{State}
use Rattle.lrc_exact_known.specs.Learned.{TakesHighest}
use Rattle.lrc_exact_made.specs.Copies.{IsChangeBetween, unmarked, HasExact}

-- an interval that the second time covers and the first does not names the page
pub record IsNamedBetween (made : List StoredRecord) (page : ℕ) (since upto : List ℕ) : Type 0 where
  pub interval : StoredRecord
  pub member : Contains made interval
  pub later : entry since interval.node < stamp_index made_stamps interval
  pub known : stamp_index made_stamps interval ≤ entry upto interval.node
  pub named : is_some (notice_of page interval) ≡ true

-- What the exact memory has of a page of which a node has this copy, where the last collection left these values of it:
abbrev pub HasPage : Size → List StoredRecord → (fixed : ℕ → ℕ) → (collected time : List ℕ) → (page : ℕ) → Copy → State → Type 0
-- a page that may be read is not stale,
HasPage size made fixed collected time page (valid values) state = state.stale page ≡ false
HasPage size made fixed collected time page (written values twin) state = state.stale page ≡ false
-- an invalid one is.
HasPage size made fixed collected time page (invalid values since) state = state.stale page ≡ true
-- For a copy that was dropped stands what the collection left, with the highest of the changes that came since; and it is stale exactly where
-- an interval names it that came since.
HasPage size made fixed collected time page absent state =
    ((offset : ℕ) → offset < words_of size
    → TakesHighest (IsChangeBetween made page offset collected time) (unmarked (fixed offset)) (state.words (word_on size page offset)))
    × ((state.stale page ≡ true) ↔ IsNamedBetween made page collected time)

-- A node's time and memory are those of a state of the exact memory, where these intervals were made, and where the last collection left these
-- values, page by page:
pub record HasPages (size : Size) (made : List StoredRecord) (fixed : ℕ → ℕ → ℕ) (time : List ℕ) (memory : Memory) (state : State) : Type 0 where
  pub exact : HasExact size made time memory state
  -- it has dropped what the node collected,
  pub dropped_is : state.dropped ≡ memory.collected
  -- and has of each page what stands for the copy.
  pub pages : (page : ℕ) → page < length memory.copies → HasPage size made (fixed page) memory.collected time page (copy_at memory page) state

-- These intervals name just the pages that those name which come between the two times.
pub record NamesNews (made : List StoredRecord) (time after : List ℕ) (intervals : List IntervalRecord) : Type 0 where
  pub some : (page : ℕ) → is_named intervals page ≡ true → IsNamedBetween made page time after
  pub none : (page : ℕ) → is_named intervals page ≡ false → IsNamedBetween made page time after → ⊥
