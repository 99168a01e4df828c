-- Pages of which no changes were fetched that the copy lacks, and what keeps them so.
use Rattle.std.proofs.Common.{◌≡◌, ℕ, ◌<◌, ◌≤◌, List, [], ◌∷◌, Bool, true, false, length, refl, sym, ap, subst, ◌∙◌, ⊎_elim, arith}
use Rattle.std.specs.Prelude.{is_none, All, ◌==◌, fold, map, filter, slice_index_or, slice_set, if◌then◌else◌}
use Rattle.std.specs.List.{list_any}
use Rattle.std.proofs.lemmas.Bool.{cond_both, cases_eq, cases_lt, ne_eqb, or_from}
use Rattle.std.proofs.lemmas.List.{get_or-set_same, get_or-set_other, get_or_past, length-set}
use Rattle.std.proofs.lemmas.List.Elements.{All-nil, All-head, All-tail}
use Rattle.lrc_time.specs.Time.{entry}
use Rattle.lrc_store.specs.declared.key.Key.{Key}
use Rattle.lrc_store.specs.Interval.{IntervalRecord}
use Rattle.lrc_store.specs.Store.{added, changes_at}
use Rattle.lrc_protocol.specs.Times.{is_named}
use Rattle.lrc_protocol.specs.Pages.{Copy, valid, written, invalid, absent, after_write, closed, invalidated, dropped, Memory, copy_at}
use Rattle.lrc_protocol.specs.Pages.{all_changes, closed_interval, with_interval, learned, missing_at, missing_in, unknown_of, all_applied, Need}
use Rattle.lrc_protocol.specs.Pages.{first_values, repaired}
use Rattle.lrc_protocol.specs.Barriers.{after_collection}
use Rattle.lrc_node_laws.specs.Stored.{StoresExactly}
use Rattle.lrc_node_laws.specs.Own.{OwnCopied}
use Rattle.lrc_node_laws.proofs.Lists.{length-placed}
use Rattle.lrc_node_laws.proofs.OwnCopies.{map-copy, placed-copy, lacking-other}
use Rattle.lrc_miss_laws.proofs.Unread.{AreUnread, one-unread, more-unread, own-unread, all-known, left-known, missing-unknown}

-- of the changes that this copy of a page lacks, none that other nodes made are known
abbrev pub IsUnfetched : ℕ → ℕ → Memory → Copy → Type 0
IsUnfetched me page memory (valid values) = Unit {0}
IsUnfetched me page memory (written values twin) = Unit {0}
IsUnfetched me page memory (invalid values since) = AreUnread me page since memory.store
IsUnfetched me page memory absent = AreUnread me page memory.collected memory.store

-- another memory, of which no more is known
pub unfetched-still : (me page : ℕ) (a b : Memory) (copy : Copy) → b.collected ≡ a.collected
    → ((since : List ℕ) → AreUnread me page since a.store → AreUnread me page since b.store)
    → IsUnfetched me page a copy → IsUnfetched me page b copy
unfetched-still me page a b (valid values) e keeps h = tt
unfetched-still me page a b (written values twin) e keeps h = tt
unfetched-still me page a b (invalid values since) e keeps h = keeps since h
unfetched-still me page a b absent e keeps h = subst (λ since. AreUnread me page since b.store) (sym e) (keeps a.collected h)

-- ---- copies

pub write-unfetched : (me page offset value : ℕ) (memory : Memory) (copy : Copy) → IsUnfetched me page memory copy
    → IsUnfetched me page memory (after_write copy offset value)
write-unfetched me page offset value memory (valid values) h = tt
write-unfetched me page offset value memory (written values twin) h = tt
write-unfetched me page offset value memory (invalid values since) h = h
write-unfetched me page offset value memory absent h = h

closed-unfetched : (me page : ℕ) (memory : Memory) (copy : Copy) → IsUnfetched me page memory copy → IsUnfetched me page memory (closed copy)
closed-unfetched me page memory (valid values) h = tt
closed-unfetched me page memory (written values twin) h = tt
closed-unfetched me page memory (invalid values since) h = h
closed-unfetched me page memory absent h = h

invalidated-unfetched : (me page : ℕ) (before : List ℕ) (memory : Memory) (copy : Copy) → AreUnread me page before memory.store → IsUnfetched me page memory copy
    → IsUnfetched me page memory (invalidated before copy)
invalidated-unfetched me page before memory (valid values) unread h = unread
invalidated-unfetched me page before memory (written values twin) unread h = tt
invalidated-unfetched me page before memory (invalid values since) unread h = h
invalidated-unfetched me page before memory absent unread h = h

dropped-unfetched : (me page : ℕ) (memory : Memory) (copy : Copy) → AreUnread me page memory.collected memory.store → IsUnfetched me page memory (dropped copy)
dropped-unfetched me page memory (valid values) unread = tt
dropped-unfetched me page memory (written values twin) unread = tt
dropped-unfetched me page memory (invalid values since) unread = unread
dropped-unfetched me page memory absent unread = unread

-- ---- an interval is closed

pub closes-unfetched : (me page : ℕ) (stamp : List ℕ) (memory : Memory) → IsUnfetched me page memory (copy_at memory page)
    → IsUnfetched me page (with_interval me stamp memory) (copy_at (with_interval me stamp memory) page)
closes-unfetched me page stamp memory h =
    let now : Memory = with_interval me stamp memory in
    let i : IntervalRecord = closed_interval me stamp memory in
    subst (IsUnfetched me page now) (sym (map-copy closed refl memory.copies page))
    (unfetched-still me page memory now (closed (copy_at memory page)) refl
    (λ since u.
    own-unread me page since (entry stamp me) (all_changes memory) (added memory.store i) (one-unread me page since i memory.store u))
    (closed-unfetched me page memory (copy_at memory page) h))

-- ---- news come

pub learns-unfetched : (me page : ℕ) (time : List ℕ) (intervals : List IntervalRecord) (memory : Memory) → StoresExactly time memory
    → IsUnfetched me page memory (copy_at memory page)
    → IsUnfetched me page (learned time intervals memory) (copy_at (learned time intervals memory) page)
learns-unfetched me page time intervals memory s h =
    let now : Memory = learned time intervals memory in
    let f : ℕ × Copy → Copy = λ place. if is_named intervals place.0 then invalidated time place.1 else place.1 in
    let still : IsUnfetched me page now (copy_at memory page) =
    unfetched-still me page memory now (copy_at memory page) refl (λ since u. more-unread me page since intervals memory.store u) h in
    ⊎_elim
    (λ (lt : page < length memory.copies).
    subst (IsUnfetched me page now) (sym (placed-copy f memory.copies page lt))
    (cond_both (is_named intervals page) (invalidated time (copy_at memory page)) (copy_at memory page) (IsUnfetched me page now)
    (λ e.
    invalidated-unfetched me page time now (copy_at memory page)
    (more-unread me page time intervals memory.store (all-known me page time memory s)) still)
    (λ e. still)))
    (λ (le : length memory.copies ≤ page).
    subst (IsUnfetched me page now)
    (get_or_past memory.copies page absent le ∙ sym (get_or_past now.copies page absent (omega (arith, le, length-placed f memory.copies)))) still)
    (cases_lt page (length memory.copies))

-- ---- pages are mended

needed-next : (need : Need) (needs : List Need) (page : ℕ) → (need.page ≡ page → ⊥)
    → list_any (λ named. named == page) (map (λ (need : Need). need.page) needs) ≡ false
    → list_any (λ named. named == page) (map (λ (need : Need). need.page) (need ∷ needs)) ≡ false
needed-next need needs page ne e = or_from (need.page == page) _ (ne_eqb need.page page ne) e

-- those that are not are as they were
pub mends-unfetched : (me page pages : ℕ) (a : Memory) (needs : List Need) (memory : Memory) → length memory.copies ≡ pages
    → All (λ (need : Need). need.page < pages) needs
    → (list_any (λ named. named == page) (map (λ (need : Need). need.page) needs) ≡ false → IsUnfetched me page a (copy_at memory page))
    → IsUnfetched me page a (copy_at (fold repaired memory needs) page)
mends-unfetched me page pages a [] memory long within h = h refl
mends-unfetched me page pages a (need ∷ needs) memory long within h =
    let Within : Need → Type 0 = λ need. need.page < pages in
    let mend : Copy = valid (all_applied memory.store (first_values (copy_at memory need.page) need.base) need.missing) in
    let lt : need.page < length memory.copies = omega (arith, long, All-head Within need needs within) in
    mends-unfetched me page pages a needs (repaired memory need) (length-set memory.copies need.page mend ∙ long) (All-tail Within need needs within)
    (λ e.
    ⊎_elim
    (λ (here : need.page ≡ page).
    subst (λ p. IsUnfetched me page a (slice_index_or (slice_set memory.copies need.page mend) p absent)) here
    (subst (IsUnfetched me page a) (sym (get_or-set_same memory.copies need.page mend absent lt)) tt))
    (λ (other : need.page ≡ page → ⊥).
    subst (IsUnfetched me page a) (sym (get_or-set_other memory.copies need.page page mend absent (λ same. other (sym same))))
    (h (needed-next need needs page other e)))
    (cases_eq need.page page))

-- ---- all is collected

pub discards-unfetched : (me page : ℕ) (time : List ℕ) (memory : Memory) → StoresExactly time memory
    → IsUnfetched me page (after_collection me time memory) (copy_at (after_collection me time memory) page)
discards-unfetched me page time memory s =
    let now : Memory = after_collection me time memory in
    subst (IsUnfetched me page now) (sym (map-copy dropped refl memory.copies page))
    (dropped-unfetched me page now (copy_at memory page) (left-known me page time memory s))

-- ---- so the test of what is known takes nothing away

filter_all : {X : Type 0} (test : X → Bool) (xs : List X) → All (λ x. test x ≡ true) xs → filter test xs ≡ xs
filter_all test [] h = refl
filter_all test (x ∷ xs) h =
    ap (λ b. if b then x ∷ filter test xs else filter test xs) (All-head (λ x. test x ≡ true) x xs h)
    ∙ ap (λ l. x ∷ l) (filter_all test xs (All-tail (λ x. test x ≡ true) x xs h))

lacking-unknown : (me page : ℕ) (memory : Memory) (copy : Copy) → IsUnfetched me page memory copy
    → All (λ (key : Key). (key.node ≡ me → ⊥) → is_none (changes_at memory.store key) ≡ true) (missing_in memory page copy)
lacking-unknown me page memory (valid values) h =
    All-nil (λ (key : Key). (key.node ≡ me → ⊥) → is_none (changes_at memory.store key) ≡ true)
lacking-unknown me page memory (written values twin) h =
    All-nil (λ (key : Key). (key.node ≡ me → ⊥) → is_none (changes_at memory.store key) ≡ true)
lacking-unknown me page memory (invalid values since) h = missing-unknown me page since memory.store h
lacking-unknown me page memory absent h = missing-unknown me page memory.collected memory.store h

pub all-unknown : (me page : ℕ) (memory : Memory) → OwnCopied me memory → IsUnfetched me page memory (copy_at memory page)
    → unknown_of memory.store (missing_at memory page) ≡ missing_at memory page
all-unknown me page memory own h =
    let others : All (λ (key : Key). key.node ≡ me → ⊥) (missing_at memory page) = lacking-other me page memory (copy_at memory page) refl own in
    let unknown : All (λ (key : Key). (key.node ≡ me → ⊥) → is_none (changes_at memory.store key) ≡ true) (missing_at memory page) =
    lacking-unknown me page memory (copy_at memory page) h in
    filter_all (λ (key : Key). is_none (changes_at memory.store key)) (missing_at memory page) (λ k d within. unknown k d within (others k d within))
