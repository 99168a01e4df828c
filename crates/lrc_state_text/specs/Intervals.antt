-- The intervals that are stored at a node, with the changes that are.
use Rattle.std.specs.Prelude.{ℕ, ◌==◌, ◌&&◌, Bool, false, not, Option, None, List, ◌++◌, codes, decimal, filter, filter_map}
use Rattle.std.specs.Prelude.{if◌then◌else◌, length, map, nat_lt, option_map, slice_get, unwrap_or}
use Rattle.std.specs.List.{list_any}
use Rattle.std.specs.Cmp.{IsEquivalence, and_equiv, nat_eq_equiv, on_equiv}
use Rattle.std.specs.Cmp.Lexicographic.{pointwise}
use Rattle.std.specs.Ordering.{on, eq_of_both}
use Rattle.lrc_time.specs.Time.{zeros}
use Rattle.lrc_page.specs.declared.changes.Change.{Change}
use Rattle.lrc_page.specs.declared.size.Size.{Size}
use Rattle.lrc_page.specs.Changes.{same_change, same_changes_equiv as same_page_changes_equiv}
use Rattle.lrc_store.specs.Interval.{index_of, IntervalRecord}
use Rattle.lrc_store.specs.Store.{changes_at, key_of, newer_of}
use Rattle.lrc_protocol.specs.Pages.{Memory}
use Rattle.lrc_state_text.specs.declared.stored.PageChanges.{PageChanges}
use Rattle.lrc_state_text.specs.Json.{interval_name, listed, numbers_text}
use Rattle.lrc_state_text.specs.Words.{changes_text, first_word}

-- an interval that is stored, and for each of its pages whose changes are stored too these changes
pub record StoredInterval : Type 0 where
  pub interval : IntervalRecord
  pub changes : List PageChanges

-- the changes of a page that an interval names, where they are stored
abbrev pub changes_stored : Memory → IntervalRecord → (page : ℕ) → Option (List Change)
changes_stored memory interval page =
    if nat_lt page (length memory.copies) then changes_at memory.store (key_of page interval) else None

abbrev pub page_changes : Memory → IntervalRecord → (page : ℕ) → Option PageChanges
page_changes memory interval page =
    option_map (λ changes. record { page = page; changes = changes }) (changes_stored memory interval page)

abbrev pub with_changes : Memory → IntervalRecord → StoredInterval
with_changes memory interval =
    record { interval = interval; changes = filter_map (page_changes memory interval) interval.pages }

-- all intervals that are stored, by node and index: their indices are from 1 up to the last one added of their node
abbrev pub intervals_stored : Memory → List IntervalRecord
intervals_stored memory = newer_of memory.store (zeros (length memory.store.last)) memory.store.last

abbrev pub stored_in : Memory → List StoredInterval
stored_in memory = map (with_changes memory) (intervals_stored memory)

-- ---- those that were shown before

abbrev pub same_changes : PageChanges → PageChanges → Bool
same_changes = eq_of_both (on (λ c. c.page) ◌==◌) (on (λ c. c.changes) (pointwise same_change))

-- the test is an equivalence
pub same_changes_equiv : IsEquivalence same_changes
same_changes_equiv = and_equiv (on_equiv (λ c. c.page) nat_eq_equiv) (on_equiv (λ c. c.changes) same_page_changes_equiv)

-- it is the same interval, and has the same changes
abbrev pub is_same : StoredInterval → StoredInterval → Bool
is_same a b =
    (a.interval.node == b.interval.node) && (index_of a.interval == index_of b.interval) && pointwise same_changes a.changes b.changes

abbrev pub is_known : List StoredInterval → StoredInterval → Bool
is_known known stored = list_any (is_same stored) known

-- the same of the one at a place
abbrev pub is_at : List StoredInterval → (place : ℕ) → StoredInterval → Bool
is_at known place stored = unwrap_or (option_map (is_same stored) (slice_get known place)) false

-- those that were not known, or had other changes
abbrev pub not_known : List StoredInterval → List StoredInterval → List StoredInterval
not_known known all = filter (λ stored. not (is_known known stored)) all

-- ---- as objects

unfoldable pub page_changes_text : Size → PageChanges → List ℕ
page_changes_text size part =
    codes "\"" ++ decimal part.page ++ codes "\":" ++ changes_text (first_word size part.page) part.changes

-- its name and its stamp, the pages that it names, and its changes
unfoldable pub stamp_text : IntervalRecord → List ℕ
stamp_text interval =
    codes "{\"interval\":" ++ interval_name interval.node (index_of interval) ++ codes ",\"stamp\":" ++ numbers_text interval.stamp

unfoldable pub pages_text : List ℕ → List ℕ
pages_text pages = codes ",\"pages\":" ++ numbers_text pages

unfoldable pub parts_text : Size → List PageChanges → List ℕ
parts_text size parts = codes ",\"changes\":{" ++ listed (page_changes_text size) parts ++ codes "}}"

unfoldable pub interval_text : Size → StoredInterval → List ℕ
interval_text size stored = stamp_text stored.interval ++ pages_text stored.interval.pages ++ parts_text size stored.changes

unfoldable pub intervals_text : Size → List StoredInterval → List ℕ
intervals_text size stored = codes ",\"intervals\":[" ++ listed (interval_text size) stored ++ codes "]"

abbrev pub intervals_member : Size → Memory → (known : List StoredInterval) → List ℕ
intervals_member size memory known = intervals_text size (not_known known (stored_in memory))
