-- A node's memory at the start.
use Rattle.std.proofs.Common.{true, ◌≡◌, ◌∙◌, ℕ, suc, zero, ◌<◌, List, [], ◌∷◌, map, length, get_or, replicate}
use Rattle.std.proofs.Common.{refl, ap, sym, subst, arith, rules, Some, None, inl, inr, ◌≤◌}
use Rattle.std.specs.List.{range_with_len}
use Rattle.std.proofs.lemmas.List.{ext_get_or, get_or_past, get_or-replicate, length-replicate}
use Rattle.std.proofs.lemmas.List.FromFn.{get_or-map-range_with_len, length-map-range_with_len}
use Rattle.std.proofs.lemmas.Bool.{cases_lt}
use Rattle.std.proofs.lemmas.List.Elements.{All-cons, All-replicate}
use Rattle.lrc_page.specs.declared.changes.Change.{Change}
use Rattle.lrc_page.specs.declared.size.Size.{Size}
use Rattle.lrc_page.specs.Page.{zero_page}
use Rattle.lrc_page.specs.Place.{pages_of}
use Rattle.lrc_time.specs.Time.{zeros, entry}
use Rattle.lrc_store.specs.Store.{StoreRecord, IsStore, empty_store}
use Rattle.lrc_table.specs.PageCopy.{PageCopy, fresh, pending_changes}
use Rattle.lrc_table.specs.Table.{Table, fresh_table, copy_at}
use Rattle.lrc_protocol.specs.Pages.{valid, absent, fresh_memory}
use Rattle.lrc_memory.specs.View.{NodeMemory, Kept, IsKept, WasLast, seen_in, seen_copy, node_seen}
use Rattle.lrc_memory.proofs.InStep.{was-now}

map-replicate : {X Y : Type 0} (f : X → Y) (n : ℕ) (x : X) → map f (replicate n x) ≡ replicate n (f x)
map-replicate f zero x = refl
map-replicate f (suc n) x = ap (λ rest. f x ∷ rest) (map-replicate f n x)

-- every copy is valid
copies-start : (words : ℕ) (size : Size) (since : List (List ℕ))
    → map (seen_copy (fresh_table words size) since) (range_with_len 0 (length (fresh_table words size).copies))
    ≡ replicate (pages_of words size) (valid (zero_page size))
copies-start words size since =
    let pages = pages_of words size in
    let copies = replicate pages (fresh (zero_page size)) in
    let f = seen_copy (fresh_table words size) since in
    ext_get_or absent _ _
    (length-map-range_with_len f 0 (length copies) ∙ length-replicate pages (fresh (zero_page size)) ∙ sym (length-replicate pages (valid (zero_page size))))
    (λ i within.
    let inside : i < length copies = omega (arith, length-map-range_with_len f 0 (length copies), within) in
    let below : i < pages = omega (arith, length-replicate pages (fresh (zero_page size)), inside) in
    get_or-map-range_with_len f 0 (length copies) i i absent inside (omega arith)
    ∙ ap (λ copy. seen_in copy.state (get_or since i []) copy) (get_or-replicate pages i (fresh (zero_page size)) (fresh []) below)
    ∙ sym (get_or-replicate pages i (valid (zero_page size)) absent below))

pub seen-start : (me nodes words : ℕ) (size : Size) (since : List (List ℕ)) (named : List ℕ)
    → node_seen (record {
      me = me;
      store = empty_store nodes (pages_of words size);
      table = fresh_table words size;
      since = since;
      named = named;
      keepers = replicate (pages_of words size) 0;
      collected = zeros nodes;
      in_step = true;
    })
    ≡ record { me = me; size = size; memory = fresh_memory nodes (pages_of words size) size }
seen-start me nodes words size since named =
    cc (copies-start words size since, map-replicate (λ (copy : PageCopy). copy.base) (pages_of words size) (fresh (zero_page size)))

abbrev seen_of : ℕ → List (List ℕ) → List ℕ → StoreRecord → Table → List ℕ → List ℕ → NodeMemory
seen_of me since named store table keepers collected = node_seen (record {
  me = me;
  store = store;
  table = table;
  since = since;
  named = named;
  keepers = keepers;
  collected = collected;
  in_step = true;
})

pub seen-new : (me nodes words pages : ℕ) (size : Size) (since : List (List ℕ)) (named : List ℕ) (store : StoreRecord) (table : Table)
    (keepers collected : List ℕ) → store ≡ empty_store nodes pages → table ≡ fresh_table words size → keepers ≡ replicate pages 0
    → collected ≡ zeros nodes → pages ≡ pages_of words size
    → node_seen (record {
      me = me;
      store = store;
      table = table;
      since = since;
      named = named;
      keepers = keepers;
      collected = collected;
      in_step = true;
    })
    ≡ record { me = me; size = size; memory = fresh_memory nodes (pages_of words size) size }
seen-new me nodes words pages size since named store table keepers collected store_is table_is keepers_are collected_is pages_are =
    ap (λ store. seen_of me since named store table keepers collected) (store_is ∙ ap (empty_store nodes) pages_are)
    ∙ ap (λ table. seen_of me since named (empty_store nodes (pages_of words size)) table keepers collected) table_is
    ∙ ap (λ keepers. seen_of me since named (empty_store nodes (pages_of words size)) (fresh_table words size) keepers collected)
    (keepers_are ∙ ap (λ n. replicate n 0) pages_are)
    ∙ ap (λ collected. seen_of me since named (empty_store nodes (pages_of words size)) (fresh_table words size)
    (replicate (pages_of words size) 0) collected) collected_is
    ∙ seen-start me nodes words size since named

-- at the start no page has changes to make
untwinned : (words : ℕ) (size : Size) (page : ℕ) (changes : List Change) → pending_changes (copy_at (fresh_table words size) page) ≡ Some changes → ⊥
untwinned words size page changes e = elim (cases_lt page (pages_of words size)) [
  | inl within ↦
      let is = get_or-replicate (pages_of words size) page (fresh (zero_page size)) (fresh []) within in
      let x : None ≡ Some changes = sym (ap pending_changes is) ∙ e in cc
  | inr past ↦
      let is = get_or_past (replicate (pages_of words size) (fresh (zero_page size))) page (fresh [])
      (omega (arith, past, length-replicate (pages_of words size) (fresh (zero_page size)))) in
      let x : None ≡ Some changes = sym (ap pending_changes is) ∙ e in cc
]

empty-sound : (nodes pages : ℕ) → IsStore (empty_store nodes pages)
empty-sound nodes pages = record {
  stamps = λ k d within. absurd (omega (arith, within));
  pages = λ k d within. absurd (omega (arith, within));
  counted = λ k d within. absurd (omega (arith, within));
  ascending = search rules;
}

empty-last : (nodes pages : ℕ) → WasLast (empty_store nodes pages) (zeros nodes)
empty-last nodes pages = was-now (empty_store nodes pages) (zeros nodes) (empty-sound nodes pages) refl

-- what is kept at the start holds together
kept-start : (me nodes words : ℕ) (size : Size) → me < nodes
    → IsKept (record {
      me = me;
      store = empty_store nodes (pages_of words size);
      table = fresh_table words size;
      since = replicate (pages_of words size) (zeros nodes);
      named = replicate (pages_of words size) 0;
      keepers = replicate (pages_of words size) 0;
      collected = zeros nodes;
      in_step = true;
    })
kept-start me nodes words size here =
    let pages = pages_of words size in
    let copies = length-replicate pages (fresh (zero_page size)) in
    let entries : length (zeros nodes) ≡ nodes = length-replicate nodes 0 in
    record {
      pages = sym copies;
      since = length-replicate pages (zeros nodes) ∙ sym copies;
      named = length-replicate pages 0 ∙ sym copies;
      keepers = length-replicate pages 0 ∙ sym copies;
      me = omega (arith, entries, here);
      times = All-replicate (λ time. length time ≡ length (zeros nodes)) pages (zeros nodes) refl;
      collected = refl;
      keeping = All-replicate (λ keeper. keeper < length (zeros nodes)) pages 0 (omega (arith, entries, here));
      makers = λ k d within. absurd (omega (arith, within));
      passed = All-replicate (λ index. index ≤ entry (zeros nodes) me) pages 0 (omega arith);
      in_step = λ in_step.
          All-cons (WasLast (empty_store nodes pages)) (zeros nodes) (replicate pages (zeros nodes)) (empty-last nodes pages)
          (All-replicate (WasLast (empty_store nodes pages)) pages (zeros nodes) (empty-last nodes pages));
      store = empty-sound nodes pages;
      sized = λ k d within. absurd (omega (arith, within));
      unmade = λ page changes e. absurd (untwinned words size page changes e);
    }

abbrev kept_of : ℕ → List (List ℕ) → List ℕ → StoreRecord → Table → List ℕ → List ℕ → Kept
kept_of me since named store table keepers collected =
    record { me = me; store = store; table = table; since = since; named = named; keepers = keepers; collected = collected; in_step = true }

pub kept-new : (me nodes words pages : ℕ) (size : Size) (since : List (List ℕ)) (named : List ℕ) (store : StoreRecord) (table : Table)
    (keepers collected : List ℕ) → store ≡ empty_store nodes pages → table ≡ fresh_table words size → since ≡ replicate pages (zeros nodes)
    → named ≡ replicate pages 0 → keepers ≡ replicate pages 0 → collected ≡ zeros nodes → pages ≡ pages_of words size → me < nodes
    → IsKept (record { me = me; store = store; table = table; since = since; named = named; keepers = keepers; collected = collected; in_step = true })
kept-new me nodes words pages size since named store table keepers collected store_is table_is since_is named_is keepers_are collected_is pages_are here =
    let whole : kept_of me since named store table keepers collected
    ≡ kept_of me (replicate (pages_of words size) (zeros nodes)) (replicate (pages_of words size) 0) (empty_store nodes (pages_of words size))
    (fresh_table words size) (replicate (pages_of words size) 0) (zeros nodes) =
    cc (store_is, table_is, since_is, named_is, keepers_are, collected_is, pages_are) in
    subst IsKept (sym whole) (kept-start me nodes words size here)
