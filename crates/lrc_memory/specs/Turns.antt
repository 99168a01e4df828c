-- What the calls on a node's memory ask of what they are given.
use Rattle.std.specs.Prelude.{ℕ, ◌≡◌, ◌<◌, ◌+◌, ◌==◌, Bool, true, false, Some, None, List, length, All}
use Rattle.std.specs.List.{range_with_len}
use Rattle.lrc_time.specs.Time.{entry}
use Rattle.lrc_store.specs.Interval.{IntervalRecord}
use Rattle.lrc_store.specs.Store.{StoreRecord, notice_at, unread}
use Rattle.lrc_page.specs.declared.size.Size.{Size}
use Rattle.lrc_page.specs.Page.{words_of}
use Rattle.lrc_envelope.specs.Records.{IndexedChangesRecord}
use Rattle.lrc_protocol.specs.Times.{indices_by}
use Rattle.lrc_protocol.specs.Pages.{Copy, invalid, absent, changes_of, Memory, Base, unneeded, come}

-- the interval is of a node that a store counts, with a stamp of as many entries, and names pages that it has
pub record IsInRange (store : StoreRecord) (interval : IntervalRecord) : Type 0 where
  pub node : interval.node < length store.last
  pub stamp : length interval.stamp ≡ length store.last
  pub pages : All (λ page. page < store.pages) interval.pages

-- the intervals can be added one after another: of each node they are those that follow the last one added
pub record CanBeAdded (store : StoreRecord) (intervals : List IntervalRecord) : Type 0 where
  pub in_range : All (IsInRange store) intervals
  pub next : (node : ℕ) → indices_by intervals node ≡ range_with_len (entry store.last node + 1) (length (indices_by intervals node))

-- no page is written in the open interval
abbrev pub NoneIsWritten : Memory → Type 0
NoneIsWritten memory = All (λ copy. changes_of copy ≡ None) memory.copies

-- each part is of a stored notice of a maker, of which no changes are known, and changes words of a page
abbrev pub AreAwaited : Size → StoreRecord → ℕ → ℕ → List IndexedChangesRecord → Type 0
AreAwaited size store maker page parts =
    All (λ part. (notice_at store (record { node = maker; index = part.index; page = page }) ≡ Some (unread page))
    × All (λ c. c.offset < words_of size) part.changes) parts

-- with what came a copy can be repaired: a base copy has come just where there was none, as long as a page
abbrev pub is_mendable : Size → Copy → Base → Bool
is_mendable size absent (come values) = length values == words_of size
is_mendable size (invalid values since) unneeded = true
is_mendable size _ _ = false
