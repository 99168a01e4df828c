-- Pages, twins and changes: a node's copies of the pages, the intervals that it knows with their notices and changes, and what
-- it fetches at an access miss (Keleher, Cox, Dwarkadas and Zwaenepoel 1994; Amza et al. 1996).
use Rattle.std.specs.Prelude.{[], ℕ, ◌&&◌, ◌==◌, ◌∷◌, Bool, false, filter, filter_map, fold, if◌then◌else◌, is_none, List, map}
use Rattle.std.specs.Prelude.{nat_lt, None, not, Option, option_map, replicate, slice_index, slice_index_or, slice_set, Some}
use Rattle.std.specs.Prelude.{true, unwrap_or}
use Rattle.std.specs.List.{enumerate_from, list_any, range_with_len}
use lib.Pointwise.{pointwise}
use Rattle.lrc_time.specs.Time.{entry, zeros}
use Rattle.lrc_page.specs.Changes.{applied, changes_between}
use Rattle.lrc_page.specs.Page.{zero_page}
use Rattle.lrc_page.specs.Place.{offset_of, page_of}
use Rattle.lrc_page.specs.declared.changes.Change.{Change}
use Rattle.lrc_page.specs.declared.size.Size.{Size}
use Rattle.lrc_store.specs.Interval.{IntervalRecord}
use Rattle.lrc_store.specs.Order.{ascending_part}
use Rattle.lrc_store.specs.Store.{added, attached, changes_at, empty_store, missing_of, StoreRecord}
use Rattle.lrc_store.specs.declared.key.Key.{Key}
use Rattle.lrc_envelope.specs.Records.{IndexedChangesRecord}
use Rattle.lrc_protocol.specs.Times.{is_named}

-- ---- copies. Changes are made when the interval closes, so a twin is kept up to the close and no longer.

-- a copy: valid; written in the open interval, with its twin, the values from before the first write; invalid, since a
-- notice came, with the node's time just before; or absent
pub data Copy : Type 0 where
  valid : (values : List ℕ) → Copy
  written : (values twin : List ℕ) → Copy
  invalid : (values since : List ℕ) → Copy
  absent : Copy

-- whether the copy may be read and written
abbrev pub is_readable : Copy → Bool
is_readable (valid values) = true
is_readable (written values twin) = true
is_readable _ = false

-- the values that the copy has, whether or not they may be read
abbrev pub values_of : Copy → List ℕ
values_of (valid values) = values
values_of (written values twin) = values
values_of (invalid values since) = values
values_of absent = []

-- a readable copy after a write at an offset: the first write of an interval makes the twin
abbrev pub after_write : Copy → ℕ → ℕ → Copy
after_write (valid values) offset value = written (slice_set values offset value) values
after_write (written values twin) offset value = written (slice_set values offset value) twin
after_write copy offset value = copy

-- what a written copy has that its twin has not
abbrev pub changes_of : Copy → Option (List Change)
changes_of (written values twin) = Some (changes_between twin values)
changes_of _ = None

-- the copy once the interval is closed: its changes are made, and the twin is gone
abbrev pub closed : Copy → Copy
closed (written values twin) = valid values
closed copy = copy

-- The copy once a notice of another node's write came, at a node whose time was this just before. No copy is written then: news
-- comes between a close and the next write. An invalid one keeps its earlier time, and lacks all that came since.
abbrev pub invalidated : List ℕ → Copy → Copy
invalidated before (valid values) = invalid values before
invalidated before copy = copy

-- the copy once a collection is done: an invalid one is dropped
abbrev pub dropped : Copy → Copy
dropped (invalid values since) = absent
dropped copy = copy

-- ---- what a node knows of the shared memory

-- the intervals that are known; for each page the copy, a base copy where one is kept, and who keeps one; and the time up
-- to which intervals were collected
pub record Memory : Type 0 where
  pub store : StoreRecord
  pub copies : List Copy
  pub bases : List (Option (List ℕ))
  pub keepers : List ℕ
  pub collected : List ℕ

-- At the start every node has a valid copy of zeros of every page. Node 0 is the keeper of each, and no base copy is kept
-- yet: nobody can ask for one before the first collection.
abbrev pub fresh_memory : ℕ → ℕ → Size → Memory
fresh_memory nodes pages size = record {
  store = empty_store nodes pages;
  copies = replicate pages (valid (zero_page size));
  bases = replicate pages None;
  keepers = replicate pages 0;
  collected = zeros nodes;
}

-- the copy of a page
abbrev pub copy_at : Memory → ℕ → Copy
copy_at memory page = slice_index_or memory.copies page absent

-- the memory with another copy of a page
abbrev pub with_copy : Memory → ℕ → Copy → Memory
with_copy memory page copy = record memory { copies = slice_set memory.copies page copy }

-- the value of a word in the copy of its page
abbrev pub value_at : Size → Memory → ℕ → ℕ
value_at size memory word = slice_index (values_of (copy_at memory (page_of word size))) (offset_of word size)

-- the memory after a write of a word on a readable page
abbrev pub with_written_word : Size → ℕ → ℕ → Memory → Memory
with_written_word size word value memory =
    let page = page_of word size in
    with_copy memory page (after_write (copy_at memory page) (offset_of word size) value)

-- ---- intervals

-- each page written in the open interval with its changes, the pages ascending (a place is a pair: a number, and what stands
-- there)
abbrev pub all_changes : Memory → List (ℕ × List Change)
all_changes memory =
    filter_map (λ place. option_map (λ changes. (place.0, changes)) (changes_of place.1)) (enumerate_from 0 memory.copies)

-- the interval that a node closes: it names each page written in it, also where nothing changed
abbrev pub closed_interval : ℕ → List ℕ → Memory → IntervalRecord
closed_interval me stamp memory = record { node = me; stamp = stamp; pages = map (λ written. written.0) (all_changes memory) }

-- the store with the changes that a node's interval made to a page
abbrev pub with_own : ℕ → ℕ → StoreRecord → ℕ × List Change → StoreRecord
with_own me index store change = attached store (record { node = me; index = index; page = change.0 }) change.1

-- the memory once the node closed the interval with this stamp: it is stored with its changes, and no twin is left
abbrev pub with_interval : ℕ → List ℕ → Memory → Memory
with_interval me stamp memory = record memory {
  store = fold (with_own me (entry stamp me)) (added memory.store (closed_interval me stamp memory)) (all_changes memory);
  copies = map closed memory.copies;
}

-- the memory once these intervals of other nodes came, at a node whose time was `before`: valid copies of their pages become
-- invalid
abbrev pub learned : List ℕ → List IntervalRecord → Memory → Memory
learned before intervals memory = record memory {
  store = fold added memory.store intervals;
  copies = map (λ place. if is_named intervals place.0 then invalidated before place.1 else place.1) (enumerate_from 0 memory.copies);
}

-- ---- what a copy lacks

-- the notices of a page that a copy of it lacks, in the order in which their changes are applied: by weight, node, index.
-- An invalid copy has what its remembered time covers. An absent one has nothing; what was collected will come with the base
-- copy.
abbrev pub missing_in : Memory → ℕ → Copy → List Key
missing_in memory page (invalid values since) = missing_of memory.store page since
missing_in memory page absent = missing_of memory.store page memory.collected
missing_in memory page _ = []

abbrev pub missing_at : Memory → ℕ → List Key
missing_at memory page = missing_in memory page (copy_at memory page)

-- what is known of the changes of a key, and nothing where they are not known
abbrev pub changes_or_none : StoreRecord → Key → List Change
changes_or_none store key = unwrap_or (changes_at store key) []

-- these values with the changes of the keys, in their order
abbrev pub all_applied : StoreRecord → List ℕ → List Key → List ℕ
all_applied store values keys = fold applied values (map (changes_or_none store) keys)

-- the store with the changes of a page that one interval of a maker made
abbrev pub with_part : ℕ → ℕ → StoreRecord → IndexedChangesRecord → StoreRecord
with_part maker page store part =
    attached store (record { node = maker; index = part.index; page = page }) part.changes

-- ---- what a page needs before it can be read

-- the base copy of a page: not needed, since the node has a copy of its own; due from its keeper; or come
pub data Base : Type 0 where
  unneeded : Base
  due : (keeper : ℕ) → Base
  come : (values : List ℕ) → Base

-- the changes that are asked of their maker, the node whose intervals they are of: those of the intervals with these indices,
-- ascending
pub record Asked : Type 0 where
  pub maker : ℕ
  pub indices : List ℕ

-- what one page needs before it can be read: a base copy, the changes that are asked for and have not come, and, in the order
-- in which they are applied, the keys of all changes that the copy lacks, come or not
pub record Need : Type 0 where
  pub page : ℕ
  pub base : Base
  pub asked : List Asked
  pub missing : List Key

-- who keeps a page
abbrev pub keeper_at : Memory → ℕ → ℕ
keeper_at memory page = slice_index memory.keepers page

-- an absent page's base copy is due from its keeper
abbrev pub base_of : ℕ → Copy → Base
base_of keeper absent = due keeper
base_of keeper _ = unneeded

-- the indices of a maker's intervals among these keys, ascending
abbrev pub indices_of : List Key → ℕ → List ℕ
indices_of keys maker = ascending_part nat_lt (λ index. true) (map (λ key. key.index) (filter (λ key. key.node == maker) keys))

-- what is asked of a maker, where it is anything
abbrev pub some_asked : ℕ → List ℕ → Option Asked
some_asked maker [] = None
some_asked maker (index ∷ indices) = Some (record { maker = maker; indices = index ∷ indices })

-- what is asked of the makers of these keys, makers ascending
abbrev pub asked_of : ℕ → List Key → List Asked
asked_of nodes keys = filter_map (λ maker. some_asked maker (indices_of keys maker)) (range_with_len 0 nodes)

-- the keys of which no changes are known
abbrev pub unknown_of : StoreRecord → List Key → List Key
unknown_of store keys = filter (λ key. is_none (changes_at store key)) keys

-- what a page needs, with so many nodes: only what is not known is asked for
abbrev pub need_of : ℕ → Memory → ℕ → Need
need_of nodes memory page =
    let missing = missing_at memory page in
    record {
      page = page;
      base = base_of (keeper_at memory page) (copy_at memory page);
      asked = asked_of nodes (unknown_of memory.store missing);
      missing = missing;
    }

-- ---- what has come of it

-- whether a base copy is still to come
abbrev pub is_due : Base → Bool
is_due (due keeper) = true
is_due _ = false

-- whether there is nothing in a list
abbrev pub is_empty_list : {X : Type 0} → List X → Bool
is_empty_list [] = true
is_empty_list (x ∷ xs) = false

-- whether all has come that the page needs
abbrev pub is_met : Need → Bool
is_met need = not (is_due need.base) && is_empty_list need.asked

-- these are the changes that are asked of a maker
abbrev pub asks_just : ℕ → List ℕ → Asked → Bool
asks_just maker indices asked = (asked.maker == maker) && pointwise ◌==◌ asked.indices indices

-- the need awaits, of that page, just these changes from that maker
abbrev pub awaits_changes : ℕ → ℕ → List ℕ → Need → Bool
awaits_changes page maker indices need = (need.page == page) && list_any (asks_just maker indices) need.asked

-- a base copy is due from this keeper
abbrev pub is_due_from : ℕ → Base → Bool
is_due_from keeper (due asked) = asked == keeper
is_due_from keeper _ = false

-- the need awaits that page from that keeper
abbrev pub awaits_page : ℕ → ℕ → Need → Bool
awaits_page page keeper need = (need.page == page) && is_due_from keeper need.base

-- the need once a maker's changes of the page came: they are no longer asked for
abbrev pub changes_came : ℕ → ℕ → Need → Need
changes_came page maker need =
    if need.page == page then record need { asked = filter (λ asked. not (asked.maker == maker)) need.asked } else need

-- the need once the page's base copy came
abbrev pub page_came : ℕ → List ℕ → Need → Need
page_came page values need = if need.page == page then record need { base = come values } else need

-- ---- repair

-- the values that the repair begins with: the base copy that came, and else the copy's own
abbrev pub first_values : Copy → Base → List ℕ
first_values copy (come values) = values
first_values copy _ = values_of copy

-- the memory once the page is repaired: its copy is valid, with all that it lacked applied in order
abbrev pub repaired : Memory → Need → Memory
repaired memory need =
    let values = first_values (copy_at memory need.page) need.base in
    with_copy memory need.page (valid (all_applied memory.store values need.missing))
