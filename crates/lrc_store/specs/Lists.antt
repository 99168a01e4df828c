-- The lists that run through a store. A link is a place in the order of adding, and each list is followed from the newest.
use Rattle.std.specs.Prelude.{◌≡◌, ℕ, zero, suc, ◌+◌, ◌==◌, ◌&&◌, Bool, Option, None, Some, option_and_then, option_map, List, [], ◌∷◌}
use Rattle.std.specs.Prelude.{length, map, flat_map, take, reverse, slice_get, slice_index, AllPairs, IsTrue, if◌then◌else◌}
use Rattle.lrc_time.specs.Time.{knows}
use Rattle.lrc_store.specs.declared.key.Key.{Key}
use Rattle.lrc_store.specs.Chains.{last_at}
use Rattle.lrc_store.specs.Interval.{IntervalRecord, index_of}
use Rattle.lrc_store.specs.Store.{StoreRecord, intervals_of, key_of}

-- the nodes of the intervals, in the order of adding
abbrev pub nodes_of : StoreRecord → List ℕ
nodes_of store = map (λ interval. interval.node) (intervals_of store)

-- an interval's notices, by page
abbrev pub keys_of : IntervalRecord → List Key
keys_of interval = map (λ page. key_of page interval) interval.pages

-- the notices, in the order of adding
abbrev pub notices_of : StoreRecord → List Key
notices_of store = flat_map keys_of (intervals_of store)

-- the pages of the notices
abbrev pub pages_noted : StoreRecord → List ℕ
pages_noted store = map (λ key. key.page) (notices_of store)

-- what a link stands for
abbrev pub interval_at : StoreRecord → ℕ → Option (ℕ × ℕ)
interval_at store at = option_map (λ interval. (interval.node, index_of interval)) (slice_get (intervals_of store) at)

abbrev pub key_at : StoreRecord → ℕ → Option Key
key_at store at = slice_get (notices_of store) at

-- the newest of a key, and the one before an entry with the same key
abbrev pub head_of : List ℕ → ℕ → Option ℕ
head_of keys key = last_at (λ other. other == key) keys

abbrev pub link_of : List ℕ → ℕ → Option ℕ
link_of keys at = head_of (take at keys) (slice_index keys at)

abbrev pub newest_of : StoreRecord → ℕ → Option ℕ
newest_of store node = head_of (nodes_of store) node

abbrev pub before_of : StoreRecord → ℕ → Option ℕ
before_of store at = link_of (nodes_of store) at

abbrev pub first_on_page_of : StoreRecord → ℕ → Option ℕ
first_on_page_of store page = head_of (pages_noted store) page

abbrev pub next_on_page_of : StoreRecord → ℕ → Option ℕ
next_on_page_of store at = link_of (pages_noted store) at

-- ---- the notices of an interval

-- so many places from this one on
abbrev pub counted_from : ℕ → ℕ → List ℕ
counted_from start zero = []
counted_from start (suc n) = start ∷ counted_from (start + 1) n

-- the places of an interval's notices, of which the first stands at this place
abbrev pub places_in : ℕ → Option IntervalRecord → List ℕ
places_in start None = []
places_in start (Some interval) = counted_from start (length interval.pages)

-- the places of the notices of an interval, by page: they come after those of the intervals added before it
abbrev pub notices_in : StoreRecord → ℕ → List ℕ
notices_in store at = places_in (length (flat_map keys_of (take at (intervals_of store)))) (slice_get (intervals_of store) at)

-- two notices are of one interval
abbrev pub is_of_one : Key → Key → Bool
is_of_one a b = (a.node == b.node) && (a.index == b.index)

-- the first notice of an interval, and the one after a notice that is of the same interval
abbrev pub first_notice_of : StoreRecord → ℕ → Option ℕ
first_notice_of store at = slice_get (notices_in store at) 0

abbrev pub next_in_interval_of : StoreRecord → ℕ → Option ℕ
next_in_interval_of store at =
    option_and_then
    (λ key. option_and_then (λ next. if is_of_one key next then Some (at + 1) else None) (key_at store (at + 1)))
    (key_at store at)

-- ---- what a time knows of a page

-- the time knows the notice's interval
abbrev pub knows_notice : List ℕ → Key → Bool
knows_notice time key = knows time key.node key.index

-- of a page's notices the time knows those that were added first: where it knows one, it knows each that was added before
abbrev pub KnowsTheFirst : StoreRecord → ℕ → List ℕ → Type 0
KnowsTheFirst store page since =
    AllPairs
    (λ earlier later. earlier.page ≡ page → later.page ≡ page → IsTrue (knows_notice since later) → IsTrue (knows_notice since earlier))
    (notices_of store)

-- ---- the lists

-- the places of a key, first to last, where the first element stands at this place
abbrev pub places_from : ℕ → ℕ → List ℕ → List ℕ
places_from key start [] = []
places_from key start (x ∷ xs) = if x == key then start ∷ places_from key (start + 1) xs else places_from key (start + 1) xs

-- the places of a key, newest first
abbrev pub list_of : List ℕ → ℕ → List ℕ
list_of keys key = reverse (places_from key 0 keys)

-- following the links from the first ends, and gives just this list
abbrev pub Follows : (ℕ → Option ℕ) → Option ℕ → List ℕ → Type 0
Follows next first [] = first ≡ None
Follows next first (at ∷ rest) = (first ≡ Some at) × Follows next (next at) rest
