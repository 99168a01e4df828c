-- What a change of one copy does to what is seen.
use Rattle.std.proofs.Common.{◌≡◌, ◌≢◌, ◌∙◌, ℕ, ◌<◌, Bool, true, false, cond, eqb, eqb-true, ◌&&◌, Option, Some, None, List}
use Rattle.std.proofs.Common.{[], ◌∷◌, map, length, get_or, set, refl, ap, sym, subst, ⊎_elim, arith}
use Rattle.std.specs.Prelude.{All}
use Rattle.std.specs.List.{range_with_len}
use Rattle.std.specs.Option.{ForSome, option_map}
use Rattle.std.proofs.lemmas.Bool.{and_parts, cases_eq, eq-eqb, false_from_ne_true}
use Rattle.std.proofs.lemmas.List.{ext_get_or, length-set, get_or-set_same, get_or-set_other}
use Rattle.std.proofs.Math.Seq.{map-set_same}
use Rattle.std.proofs.lemmas.List.Elements.{All-map, All-weaker}
use Rattle.std.proofs.lemmas.List.FromFn.{get_or-map-range_with_len, length-map-range_with_len}
use Rattle.lrc_page.specs.declared.changes.Change.{Change}
use Rattle.lrc_page.specs.declared.size.Size.{Size}
use Rattle.lrc_page.specs.Page.{words_of}
use Rattle.lrc_page.specs.Changes.{changes_between}
use Rattle.lrc_page.proofs.ChangeLists.{IsDifference, each-between}
use Rattle.lrc_store.specs.declared.key.Key.{Key}
use Rattle.lrc_store.specs.Interval.{IntervalRecord}
use Rattle.lrc_store.specs.Store.{NoticeRecord, StoredRecord, StoreRecord, notice_with, stored_with, attached, is_at}
use Rattle.lrc_store.proofs.Lookups.{notice_at-attached_other}
use Rattle.lrc_store.proofs.Stores.{IsStore-attached, intervals_of-attached}
use Rattle.lrc_table.specs.declared.slot.State.{State}
use Rattle.lrc_table.specs.declared.slot.State.TheVariants.{Valid, Written, Invalid, Absent}
use Rattle.lrc_table.specs.PageCopy.{PageCopy, IsWhole, fresh, is_valid, pending_changes, settled}
use Rattle.lrc_table.specs.Table.{Table, copy_at, with_copy}
use Rattle.lrc_table.proofs.Tables.{copy_at-with_copy, copy_at-with_copy_other}
use Rattle.lrc_table.proofs.Copies.{copy_of, pending-settled}
use Rattle.lrc_protocol.specs.Pages.{Copy, absent, Memory}
use Rattle.lrc_protocol.specs.Pages as memory
use Rattle.lrc_memory.specs.View.{Kept, AreSized, IsKept, seen, node_seen, seen_in, seen_copy, unmade, settled_store, store_over, with_known}
use Rattle.lrc_memory.proofs.Overlays.{map-alike, over-alike, over-settled}
use Rattle.lrc_memory.proofs.InStep.{all-attached}

-- ---- lists of copies

-- the same copies are seen
pub same_copies : (table other : Table) (since since' : List (List ℕ)) → length other.copies ≡ length table.copies
    → ((page : ℕ) → seen_copy other since' page ≡ seen_copy table since page)
    → map (seen_copy other since') (range_with_len 0 (length other.copies)) ≡ map (seen_copy table since) (range_with_len 0 (length table.copies))
same_copies table other since since' long same =
    ap (λ n. map (seen_copy other since') (range_with_len 0 n)) long
    ∙ map-alike (seen_copy other since') (seen_copy table since) (range_with_len 0 (length table.copies)) same

-- one copy is seen anew
pub set_copies : (table other : Table) (since since' : List (List ℕ)) (page : ℕ) (copy : Copy) → length other.copies ≡ length table.copies
    → page < length table.copies → seen_copy other since' page ≡ copy
    → ((p : ℕ) → p ≢ page → seen_copy other since' p ≡ seen_copy table since p)
    → map (seen_copy other since') (range_with_len 0 (length other.copies))
    ≡ set (map (seen_copy table since) (range_with_len 0 (length table.copies))) page copy
set_copies table other since since' page copy long within here elsewhere =
    let n = length table.copies in
    let f = seen_copy table since in
    let g = seen_copy other since' in
    let old = map f (range_with_len 0 n) in
    ap (λ n. map g (range_with_len 0 n)) long
    ∙ ext_get_or absent (map g (range_with_len 0 n)) (set old page copy)
    (length-map-range_with_len g 0 n ∙ sym (length-set old page copy ∙ length-map-range_with_len f 0 n))
    (λ i inside.
    let below : i < n = omega (arith, length-map-range_with_len g 0 n, inside) in
    let shown : get_or (map g (range_with_len 0 n)) i absent ≡ g i = get_or-map-range_with_len g 0 n i i absent below (omega arith) in
    ⊎_elim
    (λ same.
    shown ∙ ap g same ∙ here
    ∙ sym (ap (λ j. get_or (set old page copy) j absent) same
    ∙ get_or-set_same old page copy absent (omega (arith, length-map-range_with_len f 0 n, within))))
    (λ apart.
    shown ∙ elsewhere i apart
    ∙ sym (get_or-set_other old page i copy absent apart ∙ get_or-map-range_with_len f 0 n i i absent below (omega arith)))
    (cases_eq i page))

-- ---- another copy of one page

-- a copy with nothing to make in place of one with nothing to make
pub unmade-changed : (kept : Kept) (page : ℕ) (copy : PageCopy) → page < length kept.table.copies
    → pending_changes (copy_at kept.table page) ≡ None → pending_changes copy ≡ None → (key : Key)
    → unmade kept.me kept.named (with_copy kept.table page copy) key ≡ unmade kept.me kept.named kept.table key
unmade-changed kept page copy within before after key =
    ap (λ found. cond (eqb key.node kept.me && eqb (get_or kept.named key.page 0) key.index) found None)
    (⊎_elim
    (λ (same : key.page ≡ page).
    ap (λ p. pending_changes (copy_at (with_copy kept.table page copy) p)) same
    ∙ ap pending_changes (copy_at-with_copy kept.table page copy within)
    ∙ after ∙ sym before ∙ ap (λ p. pending_changes (copy_at kept.table p)) (sym same))
    (λ apart. ap pending_changes (copy_at-with_copy_other kept.table page key.page copy apart))
    (cases_eq key.page page))

abbrev pub changed : Kept → ℕ → PageCopy → Kept
changed kept page copy = record kept { table = with_copy kept.table page copy }

pub kept-changed : (kept : Kept) (page : ℕ) (copy : PageCopy) → page < length kept.table.copies → IsKept kept
    → pending_changes copy ≡ None → IsKept (changed kept page copy)
kept-changed kept page copy within is none = record {
  pages = is.pages ∙ sym (length-set kept.table.copies page copy);
  since = is.since ∙ sym (length-set kept.table.copies page copy);
  named = is.named ∙ sym (length-set kept.table.copies page copy);
  keepers = is.keepers ∙ sym (length-set kept.table.copies page copy);
  me = is.me;
  times = is.times;
  collected = is.collected;
  keeping = is.keeping;
  makers = is.makers;
  passed = is.passed;
  in_step = is.in_step;
  store = is.store;
  sized = is.sized;
  unmade = λ p changes pending.
      ⊎_elim
      (λ (same : p ≡ page).
      let nothing : Some changes ≡ None =
      sym pending ∙ ap (λ p. pending_changes (copy_at (with_copy kept.table page copy) p)) same
      ∙ ap pending_changes (copy_at-with_copy kept.table page copy within) ∙ none in
      absurd (cc))
      (λ apart. is.unmade p changes (sym (ap pending_changes (copy_at-with_copy_other kept.table page p copy apart)) ∙ pending))
      (cases_eq p page);
}

pub seen-changed : (kept : Kept) (page : ℕ) (copy : PageCopy) → page < length kept.table.copies
    → pending_changes (copy_at kept.table page) ≡ None → pending_changes copy ≡ None → copy.base ≡ (copy_at kept.table page).base
    → node_seen (changed kept page copy)
    ≡ with_known (node_seen kept) (memory.with_copy (seen kept) page (seen_in copy.state (get_or kept.since page []) copy))
seen-changed kept page copy within before after base =
    let now = with_copy kept.table page copy in
    let store : store_over (unmade kept.me kept.named now) kept.store ≡ store_over (unmade kept.me kept.named kept.table) kept.store =
    over-alike (unmade kept.me kept.named now) (unmade kept.me kept.named kept.table) kept.store
    (unmade-changed kept page copy within before after) in
    let copies = set_copies kept.table now kept.since kept.since page (seen_in copy.state (get_or kept.since page []) copy)
    (length-set kept.table.copies page copy) within
    (ap (λ (c : PageCopy). seen_in c.state (get_or kept.since page []) c) (copy_at-with_copy kept.table page copy within))
    (λ p apart. ap (λ (c : PageCopy). seen_in c.state (get_or kept.since p []) c) (copy_at-with_copy_other kept.table page p copy apart)) in
    let bases : map (λ (c : PageCopy). c.base) now.copies ≡ map (λ (c : PageCopy). c.base) kept.table.copies =
    map-set_same (λ (c : PageCopy). c.base) kept.table.copies page copy _ base in
    ap (λ s. with_known (node_seen kept) (record (seen (changed kept page copy)) { store = s })) store
    ∙ ap (λ cs. with_known (node_seen kept) (record (seen kept) { copies = cs; bases = map (λ (c : PageCopy). c.base) now.copies })) copies
    ∙ ap (λ bs. with_known (node_seen kept)
    (record (memory.with_copy (seen kept) page (seen_in copy.state (get_or kept.since page []) copy)) { bases = bs })) bases

-- ---- settling

-- the key under which a page's pending changes are still to be made
abbrev pub key_on : Kept → ℕ → Key
key_on kept page = record { node = kept.me; index = get_or kept.named page 0; page = page }

abbrev pub settled_at : Kept → ℕ → Kept
settled_at kept page = record kept {
  table = with_copy kept.table page (settled (copy_at kept.table page));
  store = settled_store kept.store (key_on kept page) (pending_changes (copy_at kept.table page));
}

-- the seen copy has no twin where it is not written
settled-in : (state : State) (values : List ℕ) (twin base : Option (List ℕ)) (since : List ℕ)
    → seen_in (settled (copy_of state values twin base)).state since (settled (copy_of state values twin base))
    ≡ seen_in state since (copy_of state values twin base)
settled-in Valid values None base since = refl
settled-in Valid values (Some twin) base since = refl
settled-in Written values twin base since = refl
settled-in Invalid values twin base since = refl
settled-in Absent values twin base since = refl

settled-base : (state : State) (values : List ℕ) (twin base : Option (List ℕ)) → (settled (copy_of state values twin base)).base ≡ base
settled-base Valid values None base = refl
settled-base Valid values (Some twin) base = refl
settled-base Written values twin base = refl
settled-base Invalid values twin base = refl
settled-base Absent values twin base = refl

-- a seen copy is as before
settled-seen : (kept : Kept) (page p : ℕ) → page < length kept.table.copies
    → seen_copy (with_copy kept.table page (settled (copy_at kept.table page))) kept.since p ≡ seen_copy kept.table kept.since p
settled-seen kept page p within =
    let old = copy_at kept.table page in
    ⊎_elim
    (λ (same : p ≡ page).
    ap (seen_copy (with_copy kept.table page (settled old)) kept.since) same
    ∙ ap (λ (c : PageCopy). seen_in c.state (get_or kept.since page []) c) (copy_at-with_copy kept.table page (settled old) within)
    ∙ settled-in old.state old.values old.twin old.base (get_or kept.since page [])
    ∙ ap (seen_copy kept.table kept.since) (sym same))
    (λ apart. ap (λ (c : PageCopy). seen_in c.state (get_or kept.since p []) c) (copy_at-with_copy_other kept.table page p (settled old) apart))
    (cases_eq p page)

-- what is still to make: of the page nothing, of others as before
pub unmade-here : (kept : Kept) (page : ℕ) (copy : PageCopy) (key : Key) → page < length kept.table.copies → key.page ≡ page
    → pending_changes copy ≡ None → unmade kept.me kept.named (with_copy kept.table page copy) key ≡ None
unmade-here kept page copy key within same none =
    ap (λ p. cond (eqb key.node kept.me && eqb (get_or kept.named key.page 0) key.index)
    (pending_changes (copy_at (with_copy kept.table page copy) p)) None) same
    ∙ ap (λ c. cond (eqb key.node kept.me && eqb (get_or kept.named key.page 0) key.index) (pending_changes c) None)
    (copy_at-with_copy kept.table page copy within)
    ∙ ap (λ found. cond (eqb key.node kept.me && eqb (get_or kept.named key.page 0) key.index) found None) none
    ∙ either (eqb key.node kept.me && eqb (get_or kept.named key.page 0) key.index)
  where
    nothing : Option (List Change)
    nothing = None

    either : (b : Bool) → cond b nothing nothing ≡ nothing
    either true = refl
    either false = refl

unmade-elsewhere : (kept : Kept) (page : ℕ) (copy : PageCopy) (key : Key) → key.page ≢ page
    → unmade kept.me kept.named (with_copy kept.table page copy) key ≡ unmade kept.me kept.named kept.table key
unmade-elsewhere kept page copy key apart =
    ap (λ c. cond (eqb key.node kept.me && eqb (get_or kept.named key.page 0) key.index) (pending_changes c) None)
    (copy_at-with_copy_other kept.table page key.page copy apart)

-- of the page there is only one key
unmade-other : (kept : Kept) (page : ℕ) (key : Key) → key.page ≡ page → key ≢ key_on kept page
    → unmade kept.me kept.named kept.table key ≡ None
unmade-other kept page key same apart =
    ap (λ b. cond b (pending_changes (copy_at kept.table key.page)) None)
    (false_from_ne_true _
    (λ there.
    let parts = and_parts (eqb key.node kept.me) _ there in
    let node : key.node ≡ kept.me = eqb-true _ _ parts.0 in
    let index : get_or kept.named key.page 0 ≡ key.index = eqb-true _ _ parts.1 in
    apart
    (ap (λ (n : ℕ). record { node = n; index = key.index; page = key.page }) node
    ∙ ap (λ (i : ℕ). record { node = kept.me; index = i; page = key.page }) (sym index)
    ∙ ap (λ (p : ℕ). record { node = kept.me; index = get_or kept.named p 0; page = p }) same)))

pub unmade-on : (kept : Kept) (page : ℕ) → unmade kept.me kept.named kept.table (key_on kept page) ≡ pending_changes (copy_at kept.table page)
unmade-on kept page =
    ap (λ b. cond (b && eqb (get_or kept.named page 0) (get_or kept.named page 0))
    (pending_changes (copy_at kept.table page)) None) (eq-eqb kept.me kept.me refl)
    ∙ ap (λ b. cond b (pending_changes (copy_at kept.table page)) None) (eq-eqb (get_or kept.named page 0) (get_or kept.named page 0) refl)

store-settled : (kept : Kept) (page : ℕ) → page < length kept.table.copies → (found : Option (List Change))
    → pending_changes (copy_at kept.table page) ≡ found
    → store_over (unmade kept.me kept.named (with_copy kept.table page (settled (copy_at kept.table page)))) (settled_store kept.store (key_on kept page) found)
    ≡ store_over (unmade kept.me kept.named kept.table) kept.store
store-settled kept page within None none =
    over-alike (unmade kept.me kept.named (with_copy kept.table page (settled (copy_at kept.table page)))) (unmade kept.me kept.named kept.table) kept.store
    (unmade-changed kept page (settled (copy_at kept.table page)) within none (pending-settled (copy_at kept.table page)))
store-settled kept page within (Some changes) some =
    let old = copy_at kept.table page in
    over-settled (unmade kept.me kept.named kept.table) (unmade kept.me kept.named (with_copy kept.table page (settled old)))
    kept.store (key_on kept page) changes
    (λ key apart.
    ⊎_elim
    (λ (same : key.page ≡ page).
    unmade-here kept page (settled old) key within same (pending-settled old) ∙ sym (unmade-other kept page key same apart))
    (λ other. unmade-elsewhere kept page (settled old) key other)
    (cases_eq key.page page))
    (unmade-here kept page (settled old) (key_on kept page) within refl (pending-settled old))
    (unmade-on kept page ∙ some)

-- settling a page changes nothing that is seen
pub seen-settled : (kept : Kept) (page : ℕ) → page < length kept.table.copies → node_seen (settled_at kept page) ≡ node_seen kept
seen-settled kept page within =
    let old = copy_at kept.table page in
    let now = with_copy kept.table page (settled old) in
    let store = store-settled kept page within (pending_changes old) refl in
    let copies = same_copies kept.table now kept.since kept.since (length-set kept.table.copies page (settled old)) (λ p. settled-seen kept page p within) in
    let bases : map (λ (c : PageCopy). c.base) now.copies ≡ map (λ (c : PageCopy). c.base) kept.table.copies =
    map-set_same (λ (c : PageCopy). c.base) kept.table.copies page (settled old) _ (settled-base old.state old.values old.twin old.base) in
    ap (λ s. with_known (node_seen kept) (record (seen (settled_at kept page)) { store = s })) store
    ∙ ap (λ cs. with_known (node_seen kept) (record (seen kept) { copies = cs; bases = map (λ (c : PageCopy). c.base) now.copies })) copies
    ∙ ap (λ bs. with_known (node_seen kept) (record (seen kept) { bases = bs })) bases

-- ---- what is kept stays so

sized-notice : (size : Size) (page : ℕ) (changes : List Change) (notices : List NoticeRecord) → All (λ c. c.offset < words_of size) changes
    → All (λ n. ForSome n.changes (λ cs. All (λ c. c.offset < words_of size) cs)) notices
    → All (λ n. ForSome n.changes (λ cs. All (λ c. c.offset < words_of size) cs)) (map (notice_with page changes) notices)
sized-notice size page changes notices fit all =
    All-map (λ (n : NoticeRecord). ForSome n.changes (λ cs. All (λ c. c.offset < words_of size) cs)) (notice_with page changes) notices
    (λ k d within. by_test (get_or notices k d) (all k d within) (eqb (get_or notices k d).page page) refl)
  where
    by_test : (n : NoticeRecord) → ForSome n.changes (λ cs. All (λ c. c.offset < words_of size) cs) → (b : Bool) → eqb n.page page ≡ b
        → ForSome (cond b (record { page = page; changes = Some changes }) n).changes (λ cs. All (λ c. c.offset < words_of size) cs)
    by_test n here true same = λ cs is. let e : changes ≡ cs = cc in subst (All (λ c. c.offset < words_of size)) e fit
    by_test n here false other = here

pub sized-attached : (size : Size) (store : StoreRecord) (key : Key) (changes : List Change) → All (λ c. c.offset < words_of size) changes
    → All (AreSized size) store.entries → All (AreSized size) (attached store key changes).entries
sized-attached size store key changes fit all =
    All-map (AreSized size) (stored_with key changes) store.entries
    (λ k d within. by_test (get_or store.entries k d) (all k d within) (is_at key.node key.index (get_or store.entries k d)))
  where
    by_test : (s : StoredRecord) → AreSized size s → (b : Bool)
        → AreSized size (cond b (record s { notices = map (notice_with key.page changes) s.notices }) s)
    by_test s here true = sized-notice size key.page changes s.notices fit here
    by_test s here false = here

pub kept-store : (kept : Kept) (key : Key) (changes : List Change) → IsKept kept → All (λ c. c.offset < words_of kept.table.size) changes
    → ((page : ℕ) (cs : List Change) → pending_changes (copy_at kept.table page) ≡ Some cs → key_on kept page ≢ key)
    → IsKept (record kept { store = attached kept.store key changes })
kept-store kept key changes is fit apart = record {
  pages = is.pages;
  since = is.since;
  named = is.named;
  keepers = is.keepers;
  me = is.me;
  times = is.times;
  collected = is.collected;
  keeping = is.keeping;
  makers = subst (All (λ (i : IntervalRecord). i.node < length kept.store.last)) (sym (intervals_of-attached kept.store key changes)) is.makers;
  passed = is.passed;
  in_step = λ in_step. all-attached kept.store key changes (kept.collected ∷ kept.since) (is.in_step in_step);
  store = IsStore-attached kept.store key changes is.store;
  sized = sized-attached kept.table.size kept.store key changes fit is.sized;
  unmade = λ page cs pending.
      notice_at-attached_other kept.store key (key_on kept page) changes (apart page cs pending) ∙ is.unmade page cs pending;
}

pub kept-settled : (kept : Kept) (page : ℕ) → page < length kept.table.copies → IsKept kept
    → ForSome (pending_changes (copy_at kept.table page)) (λ changes. All (λ c. c.offset < words_of kept.table.size) changes)
    → IsKept (settled_at kept page)
kept-settled kept page within is fit = by_found (pending_changes (copy_at kept.table page)) refl
  where
    by_found : (found : Option (List Change)) → pending_changes (copy_at kept.table page) ≡ found
        → IsKept (record (changed kept page (settled (copy_at kept.table page))) { store = settled_store kept.store (key_on kept page) found })
    by_found None none = kept-changed kept page (settled (copy_at kept.table page)) within is (pending-settled (copy_at kept.table page))
    by_found (Some changes) some =
        let mid = kept-changed kept page (settled (copy_at kept.table page)) within is (pending-settled (copy_at kept.table page)) in
        kept-store (changed kept page (settled (copy_at kept.table page))) (key_on kept page) changes mid (fit changes some)
        (λ p cs pending same.
        let page_is : p ≡ page = ap (λ (k : Key). k.page) same in
        let nothing : Some cs ≡ None =
        sym pending ∙ ap (λ p. pending_changes (copy_at (with_copy kept.table page (settled (copy_at kept.table page))) p)) page_is
        ∙ ap pending_changes (copy_at-with_copy kept.table page (settled (copy_at kept.table page)) within)
        ∙ pending-settled (copy_at kept.table page) in
        absurd (cc))

-- ---- the changes still to make are of words of a page

sized-between : (twin page : List ℕ) (n : ℕ) → length page ≡ n → All (λ c. c.offset < n) (changes_between twin page)
sized-between twin page n long =
    All-weaker (IsDifference twin page) (λ c. c.offset < n) (λ c is. omega (arith, is.0, long)) (changes_between twin page) (each-between twin page)

sized-in : (size : Size) (copy : PageCopy) → length copy.values ≡ words_of size
    → ForSome (pending_changes copy) (λ changes. All (λ c. c.offset < words_of size) changes)
sized-in size copy long changes is = by_state copy.state copy.twin is
  where
    by_state : (state : State) (twin : Option (List ℕ))
        → cond (is_valid state) (option_map (λ twin. changes_between twin copy.values) twin) None ≡ Some changes
        → All (λ c. c.offset < words_of size) changes
    by_state Valid None is = absurd (cc)
    by_state Valid (Some twin) is =
        let e : changes_between twin copy.values ≡ changes = cc in
        subst (All (λ c. c.offset < words_of size)) e (sized-between twin copy.values (words_of size) long)
    by_state Written twin is = absurd (cc)
    by_state Invalid twin is = absurd (cc)
    by_state Absent twin is = absurd (cc)

pub sized-pending : (table : Table) (page : ℕ) → All (IsWhole table.size) table.copies → page < length table.copies
    → ForSome (pending_changes (copy_at table page)) (λ changes. All (λ c. c.offset < words_of table.size) changes)
sized-pending table page whole within = sized-in table.size (copy_at table page) (whole page (fresh []) within).values

-- ---- after a call

-- a store and a table in place of those that were kept
abbrev pub with_parts : Kept → StoreRecord → Table → Kept
with_parts kept store table = record kept { store = store; table = table }

pub after-settle : (kept : Kept) (page : ℕ) (named : List ℕ) (store : StoreRecord) (table : Table) → named ≡ kept.named
    → table ≡ with_copy kept.table page (settled (copy_at kept.table page))
    → store ≡ settled_store kept.store (record { node = kept.me; index = get_or named page 0; page = page }) (pending_changes (copy_at kept.table page))
    → with_parts kept store table ≡ settled_at kept page
after-settle kept page named store table named_is table_is store_is =
    ap (with_parts kept store) table_is
    ∙ ap (λ s. with_parts kept s (with_copy kept.table page (settled (copy_at kept.table page)))) store_is
    ∙ ap (λ named. with_parts kept (settled_store kept.store (record { node = kept.me; index = get_or named page 0; page = page })
    (pending_changes (copy_at kept.table page)))
    (with_copy kept.table page (settled (copy_at kept.table page)))) named_is

pub same-parts : (kept : Kept) (store : StoreRecord) (table : Table) → table ≡ kept.table → store ≡ kept.store → with_parts kept store table ≡ kept
same-parts kept store table table_is store_is = ap (with_parts kept store) table_is ∙ ap (λ s. with_parts kept s kept.table) store_is

pub last-settled : (kept : Kept) (page : ℕ) → length (settled_at kept page).store.last ≡ length kept.store.last
last-settled kept page = by_found (pending_changes (copy_at kept.table page))
  where
    by_found : (found : Option (List Change)) → length (settled_store kept.store (key_on kept page) found).last ≡ length kept.store.last
    by_found None = refl
    by_found (Some changes) = refl
