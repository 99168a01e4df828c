-- What a node closes, what it learns, and what it knows of a page that it repairs.
use Rattle.std.specs.Prelude.{◌≡◌, ◌↔◌, ℕ, ◌<◌, ◌≤◌, false, Some, None, is_some, is_none, unwrap_or, List, [], length, map, All, Contains}
use Rattle.lrc_time.specs.Time.{entry, joined, Covers, weight_of}
use Rattle.lrc_page.specs.declared.size.Size.{Size}
use Rattle.lrc_page.specs.declared.changes.Change.{Change}
use Rattle.lrc_page.specs.Page.{words_of}
use Rattle.lrc_store.specs.declared.key.Key.{Key}
use Rattle.lrc_store.specs.Interval.{IntervalRecord, index_of}
use Rattle.lrc_store.specs.Store.{StoredRecord, StoreRecord, IsStore, interval_of, intervals_of, stored_at, notice_of, changes_at, missing_of}
use Rattle.lrc_copies.specs.Stamps.{stamp_index}
use Rattle.lrc_protocol.specs.Times.{next_time, is_named}
use Rattle.lrc_protocol.specs.Pages.{written, invalid, changes_of, Memory, copy_at}
use Rattle.lrc_reading_laws.specs.Written.{made_stamps, changes_on, made_changes}
use Rattle.lrc_exact.specs.Rule.{Knowledge}
use Rattle.lrc_exact_made.specs.Copies.{AreExactly}

-- A node with this time and memory closes its open interval as x:
pub record IsClosing (size : Size) (made : List StoredRecord) (me : ℕ) (time : List ℕ) (memory : Memory) (x : StoredRecord) : Type 0 where
  pub node_is : x.node ≡ me
  pub stamp_is : x.stamp ≡ next_time me time
  -- it names each page that is written, with the changes between twin and copy, and no other;
  pub changes : (page : ℕ) → changes_on page x ≡ unwrap_or (changes_of (copy_at memory page)) []
  pub notices : (page : ℕ) → is_some (notice_of page x) ≡ is_some (changes_of (copy_at memory page))
  -- the time has an entry for the node, and covers all that the node closed before;
  pub within : me < length time
  pub own : (y : StoredRecord) → Contains made y → y.node ≡ me → stamp_index made_stamps y ≤ entry time me
  -- and written copies are whole.
  pub long : (page : ℕ) (values twin : List ℕ) → copy_at memory page ≡ written values twin → length values ≡ words_of size

-- the interval of a node with an index is among those that were made
pub record IsAmong (made : List StoredRecord) (q k : ℕ) : Type 0 where
  pub interval : StoredRecord
  pub member : Contains made interval
  pub node_is : interval.node ≡ q
  pub index_is : stamp_index made_stamps interval ≡ k

-- To a node with this time and memory this is news, after which it has the second time:
pub record IsNewsTo (size : Size) (nodes : ℕ) (made : List StoredRecord) (time : List ℕ) (memory : Memory) (news : Knowledge)
    (intervals : List IntervalRecord) (after : List ℕ) : Type 0 where
  -- the exact memory's news, which are of intervals that were made, and what is known of each is what it did;
  pub exactly : AreExactly size made news
  pub reach : (q k : ℕ) → 1 ≤ k → k ≤ entry news.time q → IsAmong made q k
  pub after_is : joined time news.time ≡ after
  -- what was made is of these nodes;
  pub among : (y : StoredRecord) → Contains made y → y.node < nodes
  -- of what is new each page that is changed is named by the intervals that came;
  pub unnamed : (page : ℕ) → is_named intervals page ≡ false → (y : StoredRecord) → Contains made y
      → entry time y.node < stamp_index made_stamps y → stamp_index made_stamps y ≤ entry after y.node → changes_on page y ≡ []
  -- no copy is written, and the times that are remembered are covered.
  pub unwritten : (page : ℕ) → changes_of (copy_at memory page) ≡ None
  pub remembered : (page : ℕ) (values since : List ℕ) → copy_at memory page ≡ invalid values since → Covers time since

-- A store that knows all that a page lacks since a time, up to the node's time:
pub record KnowsMissing (made : List StoredRecord) (page : ℕ) (collected since time : List ℕ) (store : StoreRecord) : Type 0 where
  pub is_store : IsStore store
  -- it has just the intervals that were made, that the node's time covers and its collected time does not,
  pub just : (i : IntervalRecord) → Contains (intervals_of store) i
      ↔ (Contains (map interval_of made) i × (entry collected i.node < index_of i) × (index_of i ≤ entry time i.node))
  pub above : Covers since collected
  -- with the changes that they made,
  pub known : (key : Key) (changes : List Change) → changes_at store key ≡ Some changes → made_changes made key ≡ Some changes
  pub all_known : All (λ key. is_none (changes_at store key) ≡ false) (missing_of store page since)
  -- and no two intervals that were made have one node and index, or one node and weight.
  pub found : (x : StoredRecord) → Contains made x → stored_at made x.node (stamp_index made_stamps x) ≡ Some x
  pub apart : (x y : StoredRecord) → Contains made x → Contains made y → x.node ≡ y.node → weight_of x.stamp ≡ weight_of y.stamp → x ≡ y
