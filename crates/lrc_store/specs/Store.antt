-- The intervals that a node knows, with their write notices and the changes that came for them (Amza et al. 1996).
use Rattle.std.specs.Prelude.{◌≡◌, ℕ, ◌<◌, ◌≤◌, ◌==◌, ◌&&◌, Bool, not, Option, Some, None, option_and_then, List, [], ◌∷◌}
use Rattle.std.specs.Prelude.{◌++◌, length, map, filter, find, slice_set, All, AllPairs, if◌then◌else◌}
use Rattle.std.specs.List.{list_any}
use Rattle.lrc_time.specs.Time.{entry, zeros, knows}
use Rattle.lrc_page.specs.declared.changes.Change.{Change}
use Rattle.lrc_store.specs.declared.key.Key.{Key}
use Rattle.lrc_store.specs.Interval.{IntervalRecord, index_of, by_node, by_weight}
use Rattle.lrc_store.specs.Order.{IsAscendingPart, ascending_part}

-- a write notice: a page, and the changes made to it, once they are known
pub record NoticeRecord : Type 0 where
  pub page : ℕ
  pub changes : Option (List Change)

-- an interval in the store, with its write notices
pub record StoredRecord : Type 0 where
  pub node : ℕ
  pub stamp : List ℕ
  pub notices : List NoticeRecord

-- the number of pages; for each node the greatest index ever added, 0 before any; the intervals in the order of adding
pub record StoreRecord : Type 0 where
  pub pages : ℕ
  pub last : List ℕ
  pub entries : List StoredRecord

-- ---- the map of intervals

-- a stored interval without its changes
abbrev pub interval_of : StoredRecord → IntervalRecord
interval_of stored = record { node = stored.node; stamp = stored.stamp; pages = map (λ notice. notice.page) stored.notices }

abbrev pub intervals_of : StoreRecord → List IntervalRecord
intervals_of store = map interval_of store.entries

-- this is the node's interval with this index
abbrev pub is_at : ℕ → ℕ → StoredRecord → Bool
is_at node index stored = (stored.node == node) && (index_of (interval_of stored) == index)

-- the map: what is stored for a node and an index
abbrev pub stored_at : List StoredRecord → ℕ → ℕ → Option StoredRecord
stored_at entries node index = find (is_at node index) entries

-- a stored interval's notice of a page
abbrev pub notice_of : ℕ → StoredRecord → Option NoticeRecord
notice_of page stored = find (λ notice. notice.page == page) stored.notices

-- the notice of a key
abbrev pub notice_at : StoreRecord → Key → Option NoticeRecord
notice_at store key = option_and_then (notice_of key.page) (stored_at store.entries key.node key.index)

-- the changes known of a key
abbrev pub changes_at : StoreRecord → Key → Option (List Change)
changes_at store key = option_and_then (λ notice. notice.changes) (notice_at store key)

-- every stamp has an entry for each node, every page is below their number, no interval is beyond the last one added of
-- its node, and those of one node ascend: so no node and index are there twice
pub record IsStore (store : StoreRecord) : Type 0 where
  pub stamps : All (λ interval. length interval.stamp ≡ length store.last) (intervals_of store)
  pub pages : All (λ interval. All (λ page. page < store.pages) interval.pages) (intervals_of store)
  pub counted : All (λ interval. index_of interval ≤ entry store.last interval.node) (intervals_of store)
  pub ascending : AllPairs (λ a b. a.node ≡ b.node → index_of a < index_of b) (intervals_of store)

-- ---- what changes it

-- the store that has nothing yet
abbrev pub empty_store : ℕ → ℕ → StoreRecord
empty_store nodes pages = record { pages = pages; last = zeros nodes; entries = [] }

-- a notice without changes
abbrev pub unread : ℕ → NoticeRecord
unread page = record { page = page; changes = None }

-- an interval of which no changes are known
abbrev pub without_changes : IntervalRecord → StoredRecord
without_changes interval = record {
  node = interval.node;
  stamp = interval.stamp;
  notices = map unread interval.pages;
}

-- the store with one more interval
abbrev pub added : StoreRecord → IntervalRecord → StoreRecord
added store interval = record store {
  last = slice_set store.last interval.node (index_of interval);
  entries = store.entries ++ without_changes interval ∷ [];
}

-- a notice that gets changes if it is of this page
abbrev pub notice_with : ℕ → List Change → NoticeRecord → NoticeRecord
notice_with page changes notice =
    if notice.page == page then record { page = page; changes = Some changes } else notice

-- a stored interval that gets changes if it has this key
abbrev pub stored_with : Key → List Change → StoredRecord → StoredRecord
stored_with key changes stored =
    if is_at key.node key.index stored
    then record stored { notices = map (notice_with key.page changes) stored.notices }
    else stored

-- the store with the changes of one key
abbrev pub attached : StoreRecord → Key → List Change → StoreRecord
attached store key changes = record store { entries = map (stored_with key changes) store.entries }

-- the time knows the interval
abbrev pub is_covered : List ℕ → IntervalRecord → Bool
is_covered time interval = knows time interval.node (index_of interval)

-- the store without the intervals that a time knows. The greatest indices stay.
abbrev pub discarded : StoreRecord → List ℕ → StoreRecord
discarded store time = record store { entries = filter (λ stored. not (is_covered time (interval_of stored))) store.entries }

-- ---- what is asked of it

-- the second time knows the interval, the first does not
abbrev pub is_newer : List ℕ → List ℕ → IntervalRecord → Bool
is_newer since upto interval =
    not (knows since interval.node (index_of interval)) && knows upto interval.node (index_of interval)

-- the intervals that `upto` knows and `since` does not, by node and index
abbrev pub IsNewer : StoreRecord → List ℕ → List ℕ → List IntervalRecord → Type 0
IsNewer store since upto found = IsAscendingPart by_node (is_newer since upto) (intervals_of store) found

-- the same as a function
abbrev pub newer_of : StoreRecord → List ℕ → List ℕ → List IntervalRecord
newer_of store since upto = ascending_part by_node (is_newer since upto) (intervals_of store)

-- the interval names the page, and the time does not know it
abbrev pub is_missing : ℕ → List ℕ → IntervalRecord → Bool
is_missing page since interval =
    list_any (λ named. named == page) interval.pages && not (knows since interval.node (index_of interval))

-- the key of an interval's notice of a page
abbrev pub key_of : ℕ → IntervalRecord → Key
key_of page interval = record { node = interval.node; index = index_of interval; page = page }

-- the keys of the notices of a page that `since` does not know, by weight, node and index of their intervals
abbrev pub IsMissing : StoreRecord → ℕ → List ℕ → List Key → Type 0
IsMissing store page since found =
    (intervals : List IntervalRecord)
    × IsAscendingPart by_weight (is_missing page since) (intervals_of store) intervals
    × (found ≡ map (key_of page) intervals)

-- the same as a function
abbrev pub missing_of : StoreRecord → ℕ → List ℕ → List Key
missing_of store page since = map (key_of page) (ascending_part by_weight (is_missing page since) (intervals_of store))
