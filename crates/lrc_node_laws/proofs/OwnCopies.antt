-- A node's copies have what its own stored intervals wrote, and every change keeps it so.
use Rattle.std.proofs.Common.{◌≡◌, ℕ, ◌+◌, ◌<◌, ◌≤◌, List, [], ◌∷◌, true, length, refl, sym, ap, subst, ◌∙◌, ⊎_elim, arith}
use Rattle.std.specs.Prelude.{Option, Some, None, is_some, All, ◌==◌, fold, map, option_map, slice_index_or, slice_set, if◌then◌else◌}
use Rattle.std.specs.List.{enumerate_from, list_any}
use Rattle.std.proofs.lemmas.Bool.{cond_both, and_parts, cases_eq, cases_lt, not-true, leb-false, eqb-true}
use Rattle.std.proofs.lemmas.Option.{same_Some}
use Rattle.std.proofs.lemmas.List.{get_or-set_same, get_or-set_other, get_or_past, get_or_default, get_or-map, length-map, length-set}
use Rattle.std.proofs.lemmas.List.FromFn.{get_or-enumerate_from, length-enumerate_from}
use Rattle.std.proofs.lemmas.List.Elements.{All-nil, All-cons, All-append, All-map, All-weaker}
use Rattle.lrc_time.specs.Time.{entry, knows}
use Rattle.lrc_page.specs.declared.changes.Change.{Change as PageChange}
use Rattle.lrc_store.specs.declared.key.Key.{Key}
use Rattle.lrc_store.specs.Interval.{IntervalRecord, index_of, by_weight}
use Rattle.lrc_store.specs.Store.{intervals_of, added, is_missing, key_of, missing_of, discarded}
use Rattle.lrc_store.proofs.Stores.{intervals_of-added}
use Rattle.lrc_page.specs.Place.{page_of, offset_of}
use Rattle.lrc_protocol.specs.Times.{is_named, next_time}
use Rattle.lrc_protocol.specs.Pages.{Copy, valid, written, invalid, absent, changes_of, after_write, closed, invalidated, Memory, copy_at}
use Rattle.lrc_protocol.specs.Pages.{with_written_word, all_changes, closed_interval, with_interval, learned, missing_in, Need, repaired}
use Rattle.lrc_protocol.specs.Barriers.{after_collection, clean_memory}
use Rattle.lrc_node_laws.specs.Ranges.{CollectsAt}
use Rattle.lrc_node_laws.specs.Stored.{StoresExactly}
use Rattle.lrc_node_laws.specs.Own.{HasOwn, OwnCopied}
use Rattle.lrc_node_laws.proofs.Lists.{All-chosen}
use Rattle.lrc_node_laws.proofs.Stores.{SameIntervals, own-same, parts-same, Longer, learned-longer}
use Rattle.lrc_node_laws.proofs.Keys.{All-part}
use Rattle.lrc_node_laws.proofs.Change.{View, News, Change, receives, manages, moves, puts, closes, learns, resumes}
use Rattle.lrc_node_laws.proofs.Change.{begins, cleans, discards, misses, mends, gets_changes, gets_page}
use Rattle.lrc_node_laws.proofs.Ranges.{Ranged, clean-same}
use Rattle.lrc_node_laws.proofs.Exact.{stored-within, nothing-left}
use Rattle.lrc_node_laws.proofs.Replies.{bases-copies}
use Rattle.lrc_node_laws.proofs.Needs.{any_fits}
use Rattle.lrc_node_laws.proofs.Own.{none-own}

-- ---- copies at a place

-- one copy changes
pub set-copy : (R : Copy → Type 0) (copies : List Copy) (at page : ℕ) (copy : Copy) → (R (slice_index_or copies at absent) → R copy)
    → R (slice_index_or copies page absent) → R (slice_index_or (slice_set copies at copy) page absent)
set-copy R copies at page copy k h =
    ⊎_elim
    (λ (here : at ≡ page).
    ⊎_elim
    (λ (lt : page < length copies).
    subst R (sym (subst (λ p. slice_index_or (slice_set copies p copy) page absent ≡ copy) (sym here) (get_or-set_same copies page copy absent lt)))
    (k (subst (λ p. R (slice_index_or copies p absent)) (sym here) h)))
    (λ (le : length copies ≤ page).
    subst R (get_or_past copies page absent le ∙ sym (get_or_past (slice_set copies at copy) page absent (omega (arith, le, length-set copies at copy)))) h)
    (cases_lt page (length copies)))
    (λ other. subst R (sym (get_or-set_other copies at page copy absent (λ e. other (sym e)))) h)
    (cases_eq at page)

-- all copies change
pub map-copy : (f : Copy → Copy) → f absent ≡ absent → (copies : List Copy) (page : ℕ)
    → slice_index_or (map f copies) page absent ≡ f (slice_index_or copies page absent)
map-copy f none copies page =
    ⊎_elim
    (λ (lt : page < length copies). get_or-map f copies page absent absent lt)
    (λ (le : length copies ≤ page).
    get_or_past (map f copies) page absent (omega (arith, le, length-map copies f)) ∙ sym none ∙ ap f (sym (get_or_past copies page absent le)))
    (cases_lt page (length copies))

-- each by its place
pub placed-copy : (f : ℕ × Copy → Copy) (copies : List Copy) (page : ℕ) → page < length copies
    → slice_index_or (map f (enumerate_from 0 copies)) page absent ≡ f (page, slice_index_or copies page absent)
placed-copy f copies page lt =
    let same : 0 + page ≡ page = omega arith in
    get_or-map f (enumerate_from 0 copies) page (0, absent) absent (omega (arith, lt, length-enumerate_from 0 copies))
    ∙ ap f (get_or-enumerate_from 0 copies page (0, absent) lt)
    ∙ ap (λ k. f (k, slice_index_or copies page absent)) same

-- ---- what a copy has

write-own : (me index offset value : ℕ) (copy : Copy) → HasOwn me index copy → HasOwn me index (after_write copy offset value)
write-own me index offset value (valid values) h = tt
write-own me index offset value (written values twin) h = tt
write-own me index offset value (invalid values since) h = h
write-own me index offset value absent h = h

closed-own : (me index : ℕ) (copy : Copy) → HasOwn me index copy → HasOwn me index (closed copy)
closed-own me index (valid values) h = tt
closed-own me index (written values twin) h = tt
closed-own me index (invalid values since) h = h
closed-own me index absent h = h

written-own : (me index : ℕ) (copy : Copy) → is_some (changes_of copy) ≡ true → HasOwn me index (closed copy)
written-own me index (written values twin) h = tt
written-own me index (valid values) h = tt
written-own me index (invalid values since) h = cc
written-own me index absent h = cc

invalidated-own : (me index : ℕ) (before : List ℕ) (copy : Copy) → index ≤ entry before me → HasOwn me index copy → HasOwn me index (invalidated before copy)
invalidated-own me index before (valid values) le h = le
invalidated-own me index before (written values twin) le h = tt
invalidated-own me index before (invalid values since) le h = h
invalidated-own me index before absent le h = h

-- ---- one memory after another

abbrev Own : ℕ → Memory → IntervalRecord → Type 0
Own me memory i = i.node ≡ me → All (λ page. HasOwn me (index_of i) (copy_at memory page)) i.pages

-- with the same intervals, where each copy keeps what it has
own-copies : (me : ℕ) (time : List ℕ) (a b : Memory) → intervals_of b.store ≡ intervals_of a.store → StoresExactly time a
    → ((index page : ℕ) → index ≤ entry time me → HasOwn me index (copy_at a page) → HasOwn me index (copy_at b page))
    → OwnCopied me a → OwnCopied me b
own-copies me time a b same s keeps h =
    subst (All (Own me b)) (sym same)
    (λ k d within e.
    let i : IntervalRecord = slice_index_or (intervals_of a.store) k d in
    let below : index_of i ≤ entry time me = subst (λ n. index_of i ≤ entry time n) e (stored-within time a s k d within) in
    All-weaker (λ page. HasOwn me (index_of i) (copy_at a page)) (λ page. HasOwn me (index_of i) (copy_at b page))
    (λ page x. keeps (index_of i) page below x) i.pages (h k d within e))

mends-own : (me index : ℕ) (needs : List Need) (memory : Memory) (page : ℕ) → HasOwn me index (copy_at memory page)
    → HasOwn me index (copy_at (fold repaired memory needs) page)
mends-own me index [] memory page h = h
mends-own me index (need ∷ needs) memory page h =
    mends-own me index needs (repaired memory need) page (set-copy (HasOwn me index) memory.copies need.page page _ (λ x. tt) h)

-- ---- the node closes an interval

-- the pages that it names were written
place-copy : (memory : Memory) → All (λ (place : ℕ × Copy). place.1 ≡ copy_at memory place.0) (enumerate_from 0 memory.copies)
place-copy memory k d within =
    let lt : k < length memory.copies = omega (arith, within, length-enumerate_from 0 memory.copies) in
    let same : 0 + k ≡ k = omega arith in
    subst (λ (place : ℕ × Copy). place.1 ≡ copy_at memory place.0) (sym (get_or-enumerate_from 0 memory.copies k d lt))
    (get_or_default memory.copies k d.1 absent lt ∙ ap (λ n. slice_index_or memory.copies n absent) (sym same))

chosen-written : (memory : Memory) (place : ℕ × Copy) (page : ℕ × List PageChange) (o : Option (List PageChange)) → changes_of place.1 ≡ o
    → place.1 ≡ copy_at memory place.0
    → option_map (λ changes. (place.0, changes)) o ≡ Some page → is_some (changes_of (copy_at memory page.0)) ≡ true
chosen-written memory place page None c e s = cc
chosen-written memory place page (Some changes) c e s =
    let at : place.0 ≡ page.0 = ap (λ (p : ℕ × List PageChange). p.0) (same_Some (place.0, changes) page s) in
    ap (λ p. is_some (changes_of (copy_at memory p))) (sym at) ∙ ap (λ x. is_some (changes_of x)) (sym e) ∙ ap is_some c

pub pages-written : (memory : Memory) → All (λ page. is_some (changes_of (copy_at memory page)) ≡ true)
    (map (λ (page : ℕ × List PageChange). page.0) (all_changes memory))
pages-written memory =
    All-map (λ page. is_some (changes_of (copy_at memory page)) ≡ true) (λ (page : ℕ × List PageChange). page.0) (all_changes memory)
    (All-chosen (λ (place : ℕ × Copy). place.1 ≡ copy_at memory place.0) (λ (page : ℕ × List PageChange). is_some (changes_of (copy_at memory page.0)) ≡ true)
    (λ place. option_map (λ changes. (place.0, changes)) (changes_of place.1))
    (λ place page e s. chosen-written memory place page (changes_of place.1) refl e s)
    (enumerate_from 0 memory.copies) (place-copy memory))

closes-own : (me : ℕ) (stamp : List ℕ) (memory : Memory) → OwnCopied me memory → OwnCopied me (with_interval me stamp memory)
closes-own me stamp memory h =
    let i : IntervalRecord = closed_interval me stamp memory in
    let after : Memory = with_interval me stamp memory in
    let same : SameIntervals (added memory.store i) after.store = own-same me (entry stamp me) (all_changes memory) (added memory.store i) in
    subst (All (Own me after)) (sym (same.intervals ∙ intervals_of-added memory.store i))
    (All-append (Own me after) (intervals_of memory.store) (i ∷ [])
    (λ k d within e.
    let j : IntervalRecord = slice_index_or (intervals_of memory.store) k d in
    All-weaker (λ page. HasOwn me (index_of j) (copy_at memory page)) (λ page. HasOwn me (index_of j) (copy_at after page))
    (λ page x. subst (HasOwn me (index_of j)) (sym (map-copy closed refl memory.copies page)) (closed-own me (index_of j) (copy_at memory page) x)) j.pages
    (h k d within e))
    (All-cons (Own me after) i []
    (λ e. All-weaker (λ page. is_some (changes_of (copy_at memory page)) ≡ true) (λ page. HasOwn me (index_of i) (copy_at after page))
    (λ page x. subst (HasOwn me (index_of i)) (sym (map-copy closed refl memory.copies page))
    (written-own me (index_of i) (copy_at memory page) x)) i.pages (pages-written memory))
    (All-nil (Own me after))))

-- ---- news come

learned-copy : (me index : ℕ) (before : List ℕ) (intervals : List IntervalRecord) (memory : Memory) (page : ℕ) → index ≤ entry before me
    → HasOwn me index (copy_at memory page) → HasOwn me index (copy_at (learned before intervals memory) page)
learned-copy me index before intervals memory page le h =
    let f : ℕ × Copy → Copy = λ place. if is_named intervals place.0 then invalidated before place.1 else place.1 in
    ⊎_elim
    (λ (lt : page < length memory.copies).
    subst (HasOwn me index) (sym (placed-copy f memory.copies page lt))
    (cond_both (is_named intervals page) (invalidated before (copy_at memory page)) (copy_at memory page) (HasOwn me index)
    (λ e. invalidated-own me index before (copy_at memory page) le h) (λ e. h)))
    (λ (past : length memory.copies ≤ page). absurd (subst (HasOwn me index) (get_or_past memory.copies page absent past) h))
    (cases_lt page (length memory.copies))

learns-own : (v : View) (time : List ℕ) (intervals : List IntervalRecord) → News v time intervals → Ranged v → StoresExactly v.time v.memory
    → OwnCopied v.setting.me v.memory → OwnCopied v.setting.me (learned v.time intervals v.memory)
learns-own v time intervals news r s h =
    let me : ℕ = v.setting.me in
    let after : Memory = learned v.time intervals v.memory in
    let longer : Longer v.memory.store intervals (fold added v.memory.store intervals) = learned-longer intervals v.memory.store in
    subst (All (Own me after)) (sym longer.intervals)
    (All-append (Own me after) (intervals_of v.memory.store) intervals
    (λ k d within e.
    let i : IntervalRecord = slice_index_or (intervals_of v.memory.store) k d in
    let below : index_of i ≤ entry v.time me = subst (λ n. index_of i ≤ entry v.time n) e (stored-within v.time v.memory s k d within) in
    All-weaker (λ page. HasOwn me (index_of i) (copy_at v.memory page)) (λ page. HasOwn me (index_of i) (copy_at after page))
    (λ page x. learned-copy me (index_of i) v.time intervals v.memory page below x) i.pages (h k d within e))
    (All-weaker (λ (i : IntervalRecord). i.node ≡ me → ⊥) (Own me after) (λ i other e. absurd (other e)) intervals (none-own v time intervals news r.me)))

-- ---- every change

pub own-kept : (v after : View) → Change v after → Ranged v → StoresExactly v.time v.memory → OwnCopied v.setting.me v.memory
    → OwnCopied after.setting.me after.memory
own-kept v _ (receives from numbers) r s h = h
own-kept v _ (manages before manager e many) r s h = h
own-kept v _ (moves course n) r s h = h
own-kept v _ (puts word value w) r s h =
    own-copies v.setting.me v.time v.memory (with_written_word v.size word value v.memory) refl s
    (λ index page le x.
    set-copy (HasOwn v.setting.me index) v.memory.copies (page_of word v.size) page _
    (λ y. write-own v.setting.me index (offset_of word v.size) value (copy_at v.memory (page_of word v.size)) y) x) h
own-kept v _ (closes wait w x) r s h = closes-own v.setting.me (next_time v.setting.me v.time) v.memory h
own-kept v _ (learns time intervals o news) r s h = learns-own v time intervals news r s h
own-kept v _ (resumes o) r s h = h
own-kept v _ (begins before time w t c long) r s h = h
own-kept v _ (cleans collection needs w met) r s h =
    own-copies v.setting.me v.time v.memory (clean_memory needs collection.kept v.memory) (ap intervals_of (clean-same needs collection.kept v.memory).store) s
    (λ index page le x.
    subst (λ (copies : List Copy). HasOwn v.setting.me index (slice_index_or copies page absent))
    (sym (bases-copies collection.kept (fold repaired v.memory needs)))
    (mends-own v.setting.me index needs v.memory page x)) h
own-kept v _ (discards collection w) r s h =
    let same : collection.time ≡ v.time = subst (CollectsAt v.time) w r.present in
    let none : intervals_of (discarded v.memory.store collection.time) ≡ [] =
    ap (λ t. intervals_of (discarded v.memory.store t)) same ∙ nothing-left v.time v.memory s in
    subst (All (Own v.setting.me (after_collection v.setting.me collection.time v.memory))) (sym none)
    (All-nil (Own v.setting.me (after_collection v.setting.me collection.time v.memory)))
own-kept v _ (misses page w lt b n) r s h = h
own-kept v _ (mends need w met) r s h =
    own-copies v.setting.me v.time v.memory (repaired v.memory need) refl s
    (λ index page le x. set-copy (HasOwn v.setting.me index) v.memory.copies need.page page _ (λ y. tt) x) h
own-kept v _ (gets_changes from m e) r s h =
    subst (All (Own v.setting.me v.memory)) (sym (parts-same from m.page m.parts v.memory.store).intervals) h
own-kept v _ (gets_page from page values e) r s h = h

-- ---- so no copy lacks an own interval

named-own : (me page : ℕ) (memory : Memory) (i : IntervalRecord) → Own me memory i → list_any (λ named. named == page) i.pages ≡ true → i.node ≡ me
    → HasOwn me (index_of i) (copy_at memory page)
named-own me page memory i h e n = by_page i.pages (h n) e
  where
    by_page : (pages : List ℕ) → All (λ page. HasOwn me (index_of i) (copy_at memory page)) pages → list_any (λ named. named == page) pages ≡ true
        → HasOwn me (index_of i) (copy_at memory page)
    by_page pages a e =
        any_fits (λ page. HasOwn me (index_of i) (copy_at memory page)) (λ named. named == page) (HasOwn me (index_of i) (copy_at memory page))
        (λ named x s. subst (λ p. HasOwn me (index_of i) (copy_at memory p)) (eqb-true named page s) x) pages a e

missing-other : (me page : ℕ) (memory : Memory) (since : List ℕ) → OwnCopied me memory
    → ((index : ℕ) → HasOwn me index (copy_at memory page) → index ≤ entry since me)
    → All (λ (key : Key). key.node ≡ me → ⊥) (missing_of memory.store page since)
missing-other me page memory since h covers =
    All-map (λ (key : Key). key.node ≡ me → ⊥) (key_of page) _
    (All-part by_weight (is_missing page since) (Own me memory) (λ i. i.node ≡ me → ⊥)
    (λ i own e n.
    let parts : _ = and_parts _ _ e in
    let below : index_of i ≤ entry since me = covers (index_of i) (named-own me page memory i own parts.0 n) in
    let above : entry since i.node < index_of i = leb-false (index_of i) (entry since i.node) (not-true (knows since i.node (index_of i)) parts.1) in
    let same : entry since i.node ≡ entry since me = ap (entry since) n in
    omega (arith, below, above, same))
    (intervals_of memory.store) h)

pub lacking-other : (me page : ℕ) (memory : Memory) (copy : Copy) → copy_at memory page ≡ copy → OwnCopied me memory
    → All (λ (key : Key). key.node ≡ me → ⊥) (missing_in memory page copy)
lacking-other me page memory (valid values) e h = All-nil (λ (key : Key). key.node ≡ me → ⊥)
lacking-other me page memory (written values twin) e h = All-nil (λ (key : Key). key.node ≡ me → ⊥)
lacking-other me page memory (invalid values since) e h = missing-other me page memory since h (λ index x. subst (HasOwn me index) e x)
lacking-other me page memory absent e h = missing-other me page memory memory.collected h (λ index x. absurd (subst (HasOwn me index) e x))
