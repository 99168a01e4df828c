-- Remembered times are between the collected time and the node's, and every change keeps them so.
use Rattle.std.proofs.Common.{◌≡◌, ℕ, ◌+◌, ◌-◌, ◌<◌, ◌≤◌, List, [], ◌∷◌, ◌++◌, true, length, refl, sym, ap, subst, ◌∙◌, ⊎_elim, arith}
use Rattle.std.specs.Prelude.{All, not, ◌==◌, fold, slice_index_or, if◌then◌else◌}
use Rattle.std.specs.List.{list_any, range_with_len}
use Rattle.std.proofs.lemmas.Bool.{cond_both, and_from, cases_lt, or_cases, or_left, or_right, lt-leb}
use Rattle.std.proofs.lemmas.List.{get_or_past}
use Rattle.std.proofs.lemmas.List.Folds.{list_any-append}
use Rattle.std.proofs.lemmas.List.Elements.{All-head, All-tail, All-weaker}
use Rattle.lrc_time.specs.Time.{entry, Covers, joined, knows}
use Rattle.lrc_time.proofs.Times.{covers-refl, covers-trans, covers-raised, covers-joined_first}
use Rattle.lrc_store.specs.Interval.{IntervalRecord, index_of}
use Rattle.lrc_store.specs.Store.{intervals_of, added, is_missing}
use Rattle.lrc_store.proofs.Stores.{intervals_of-added}
use Rattle.lrc_page.specs.Place.{page_of, offset_of}
use Rattle.lrc_protocol.specs.Times.{is_named, next_time}
use Rattle.lrc_protocol.specs.Pages.{Copy, valid, written, invalid, absent, after_write, closed, invalidated, dropped, Memory, copy_at}
use Rattle.lrc_protocol.specs.Pages.{with_written_word, all_changes, closed_interval, with_interval, learned, Need, repaired, with_part}
use Rattle.lrc_protocol.specs.Barriers.{with_keepers, after_collection, clean_memory}
use Rattle.lrc_node_laws.specs.Stored.{StoresExactly}
use Rattle.lrc_node_laws.specs.Remembered.{IsBetween}
use Rattle.lrc_node_laws.proofs.Lists.{length-placed}
use Rattle.lrc_node_laws.proofs.Stores.{own-same, parts-same, learned-longer}
use Rattle.lrc_node_laws.proofs.Indices.{range-above, by_indices}
use Rattle.lrc_node_laws.proofs.Change.{View, News, Change, receives, manages, moves, puts, closes, learns, resumes}
use Rattle.lrc_node_laws.proofs.Change.{begins, cleans, discards, misses, mends, gets_changes, gets_page}
use Rattle.lrc_node_laws.proofs.Ranges.{Ranged, SameRest, clean-same}
use Rattle.lrc_node_laws.proofs.Exact.{next-indices}
use Rattle.lrc_node_laws.proofs.Replies.{bases-copies}
use Rattle.lrc_node_laws.proofs.OwnCopies.{set-copy, map-copy, placed-copy}

-- ---- a later time, and more intervals

later : (time after : List ℕ) (a b : Memory) (page : ℕ) (copy : Copy) → Covers after time → b.collected ≡ a.collected
    → ((since : List ℕ) → list_any (is_missing page since) (intervals_of a.store) ≡ true → list_any (is_missing page since) (intervals_of b.store) ≡ true)
    → IsBetween time a page copy → IsBetween after b page copy
later time after a b page (valid values) c e more h = tt
later time after a b page (written values twin) c e more h = tt
later time after a b page (invalid values since) c e more h =
    (subst (Covers since) (sym e) h.0, covers-trans after time since c h.1, more since h.2)
later time after a b page absent c e more h = tt

-- the same intervals
same : (time : List ℕ) (a b : Memory) (page : ℕ) (copy : Copy) → b.collected ≡ a.collected → intervals_of b.store ≡ intervals_of a.store
    → IsBetween time a page copy → IsBetween time b page copy
same time a b page copy e i h =
    later time time a b page copy (covers-refl time) e (λ since m. ap (list_any (is_missing page since)) i ∙ m) h

-- ---- copies

write-between : (time : List ℕ) (memory : Memory) (page offset value : ℕ) (copy : Copy) → IsBetween time memory page copy
    → IsBetween time memory page (after_write copy offset value)
write-between time memory page offset value (valid values) h = tt
write-between time memory page offset value (written values twin) h = tt
write-between time memory page offset value (invalid values since) h = h
write-between time memory page offset value absent h = tt

closed-between : (time : List ℕ) (memory : Memory) (page : ℕ) (copy : Copy) → IsBetween time memory page copy → IsBetween time memory page (closed copy)
closed-between time memory page (valid values) h = tt
closed-between time memory page (written values twin) h = tt
closed-between time memory page (invalid values since) h = h
closed-between time memory page absent h = tt

dropped-between : (time : List ℕ) (memory : Memory) (page : ℕ) (copy : Copy) → IsBetween time memory page (dropped copy)
dropped-between time memory page (valid values) = tt
dropped-between time memory page (written values twin) = tt
dropped-between time memory page (invalid values since) = tt
dropped-between time memory page absent = tt

mends-between : (time : List ℕ) (a : Memory) (page : ℕ) (needs : List Need) (memory : Memory)
    → IsBetween time a page (copy_at memory page) → IsBetween time a page (copy_at (fold repaired memory needs) page)
mends-between time a page [] memory h = h
mends-between time a page (need ∷ needs) memory h =
    mends-between time a page needs (repaired memory need) (set-copy (IsBetween time a page) memory.copies need.page page _ (λ x. tt) h)

-- ---- news

-- an interval that names the page, of which none is known
named-missing : (page : ℕ) (before : List ℕ) (intervals : List IntervalRecord) → All (λ (i : IntervalRecord). entry before i.node < index_of i) intervals
    → is_named intervals page ≡ true → list_any (is_missing page before) intervals ≡ true
named-missing page before [] h e = e
named-missing page before (i ∷ intervals) h e =
    let Above : IntervalRecord → Type 0 = λ i. entry before i.node < index_of i in
    let above : entry before i.node < index_of i = All-head Above i intervals h in
    ⊎_elim
    (λ (here : list_any (λ named. named == page) i.pages ≡ true).
    or_left (is_missing page before i) (list_any (is_missing page before) intervals)
    (and_from (list_any (λ named. named == page) i.pages) (not (knows before i.node (index_of i))) here
    (ap not (lt-leb (index_of i) (entry before i.node) above))))
    (λ rest. or_right (is_missing page before i) (list_any (is_missing page before) intervals)
    (named-missing page before intervals (All-tail Above i intervals h) rest))
    (or_cases (list_any (λ named. named == page) i.pages) (is_named intervals page) e)

module _ (v : View) (time : List ℕ) (intervals : List IntervalRecord) (news : News v time intervals) (r : Ranged v) (s : StoresExactly v.time v.memory) where
  above : All (λ (i : IntervalRecord). entry v.time i.node < index_of i) intervals
  above =
      by_indices (λ q k. entry v.time q < k) intervals
      (λ q. subst (All (λ k. entry v.time q < k)) (sym (next-indices v time intervals news r s q))
      (All-weaker (λ k. entry v.time q + 1 ≤ k) (λ k. entry v.time q < k) (λ k h. omega arith)
      (range_with_len (entry v.time q + 1) (entry time q - entry v.time q))
      (range-above (entry v.time q + 1) (entry time q - entry v.time q) (entry v.time q + 1) (omega arith))))

  abbrev after : Memory
  after = learned v.time intervals v.memory

  intervals-longer : intervals_of after.store ≡ intervals_of v.memory.store ++ intervals
  intervals-longer = (learned-longer intervals v.memory.store).intervals

  still-missing : (page : ℕ) (since : List ℕ) → list_any (is_missing page since) (intervals_of v.memory.store) ≡ true
      → list_any (is_missing page since) (intervals_of after.store) ≡ true
  still-missing page since e =
      ap (list_any (is_missing page since)) intervals-longer
      ∙ list_any-append (is_missing page since) (intervals_of v.memory.store) intervals
      ∙ or_left (list_any (is_missing page since) (intervals_of v.memory.store)) (list_any (is_missing page since) intervals) e

  now-missing : (page : ℕ) → is_named intervals page ≡ true → list_any (is_missing page v.time) (intervals_of after.store) ≡ true
  now-missing page e =
      ap (list_any (is_missing page v.time)) intervals-longer
      ∙ list_any-append (is_missing page v.time) (intervals_of v.memory.store) intervals
      ∙ or_right (list_any (is_missing page v.time) (intervals_of v.memory.store)) (list_any (is_missing page v.time) intervals)
      (named-missing page v.time intervals above e)

  invalid-between : (page : ℕ) (copy : Copy) → is_named intervals page ≡ true → IsBetween v.time v.memory page copy
      → IsBetween (joined v.time time) after page (invalidated v.time copy)
  invalid-between page (valid values) e h = (s.below, covers-joined_first v.time time, now-missing page e)
  invalid-between page (written values twin) e h = tt
  invalid-between page (invalid values since) e h =
      later v.time (joined v.time time) v.memory after page (invalid values since) (covers-joined_first v.time time) refl (still-missing page) h
  invalid-between page absent e h = tt

  pub learns-between : (page : ℕ) → IsBetween v.time v.memory page (copy_at v.memory page) → IsBetween (joined v.time time) after page (copy_at after page)
  learns-between page h =
      let f : ℕ × Copy → Copy = λ place. if is_named intervals place.0 then invalidated v.time place.1 else place.1 in
      ⊎_elim
      (λ (lt : page < length v.memory.copies).
      subst (IsBetween (joined v.time time) after page) (sym (placed-copy f v.memory.copies page lt))
      (cond_both (is_named intervals page) (invalidated v.time (copy_at v.memory page)) (copy_at v.memory page) (IsBetween (joined v.time time) after page)
      (λ e. invalid-between page (copy_at v.memory page) e h)
      (λ e. later v.time (joined v.time time) v.memory after page (copy_at v.memory page) (covers-joined_first v.time time) refl (still-missing page) h)))
      (λ (le : length v.memory.copies ≤ page).
      subst (IsBetween (joined v.time time) after page) (sym (get_or_past after.copies page absent (omega (arith, le, length-placed f v.memory.copies)))) tt)
      (cases_lt page (length v.memory.copies))

-- ---- every change

abbrev pub Between : View → Type 0
Between v = (page : ℕ) → IsBetween v.time v.memory page (copy_at v.memory page)

closes-between : (v : View) → Between v → (page : ℕ)
    → IsBetween (next_time v.setting.me v.time) (with_interval v.setting.me (next_time v.setting.me v.time) v.memory) page
    (copy_at (with_interval v.setting.me (next_time v.setting.me v.time) v.memory) page)
closes-between v h page =
    let me : ℕ = v.setting.me in
    let stamp : List ℕ = next_time me v.time in
    let now : Memory = with_interval me stamp v.memory in
    let i : IntervalRecord = closed_interval me stamp v.memory in
    let intervals : intervals_of now.store ≡ intervals_of v.memory.store ++ i ∷ [] =
    (own-same me (entry stamp me) (all_changes v.memory) (added v.memory.store i)).intervals ∙ intervals_of-added v.memory.store i in
    subst (IsBetween stamp now page) (sym (map-copy closed refl v.memory.copies page))
    (later v.time stamp v.memory now page (closed (copy_at v.memory page)) (covers-raised v.time me (entry v.time me + 1) (omega arith)) refl
    (λ since e.
    ap (list_any (is_missing page since)) intervals
    ∙ list_any-append (is_missing page since) (intervals_of v.memory.store) (i ∷ [])
    ∙ or_left (list_any (is_missing page since) (intervals_of v.memory.store)) (list_any (is_missing page since) (i ∷ [])) e)
    (closed-between v.time v.memory page (copy_at v.memory page) (h page)))

cleans-between : (v : View) (needs : List Need) (kept : List ℕ) → Between v → (page : ℕ)
    → IsBetween v.time (clean_memory needs kept v.memory) page (copy_at (clean_memory needs kept v.memory) page)
cleans-between v needs kept h page =
    let now : Memory = clean_memory needs kept v.memory in
    let rest : SameRest v.memory now = clean-same needs kept v.memory in
    same v.time v.memory now page (copy_at now page) rest.collected (ap intervals_of rest.store)
    (subst (λ (copies : List Copy). IsBetween v.time v.memory page (slice_index_or copies page absent)) (sym (bases-copies kept (fold repaired v.memory needs)))
    (mends-between v.time v.memory page needs v.memory (h page)))

pub between-kept : (v after : View) → Change v after → Ranged v → StoresExactly v.time v.memory → Between v → Between after
between-kept v _ (receives from numbers) r s h = h
between-kept v _ (manages before manager e many) r s h = h
between-kept v _ (moves course n) r s h = h
between-kept v _ (puts word value w) r s h = λ page.
    let now : Memory = with_written_word v.size word value v.memory in
    same v.time v.memory now page (copy_at now page) refl refl
    (set-copy (IsBetween v.time v.memory page) v.memory.copies (page_of word v.size) page _
    (λ x. write-between v.time v.memory page (offset_of word v.size) value (copy_at v.memory (page_of word v.size)) x) (h page))
between-kept v _ (closes wait w x) r s h = closes-between v h
between-kept v _ (learns time intervals o news) r s h = λ page. learns-between v time intervals news r s page (h page)
between-kept v _ (resumes o) r s h = h
between-kept v _ (begins before time w t c long) r s h = λ page. same v.time v.memory (with_keepers v.memory) page (copy_at v.memory page) refl refl (h page)
between-kept v _ (cleans collection needs w met) r s h = cleans-between v needs collection.kept h
between-kept v _ (discards collection w) r s h = λ page.
    let now : Memory = after_collection v.setting.me collection.time v.memory in
    subst (IsBetween v.time now page) (sym (map-copy dropped refl v.memory.copies page)) (dropped-between v.time now page (copy_at v.memory page))
between-kept v _ (misses page w lt b n) r s h = h
between-kept v _ (mends need w met) r s h = λ page.
    let now : Memory = repaired v.memory need in
    same v.time v.memory now page (copy_at now page) refl refl
    (set-copy (IsBetween v.time v.memory page) v.memory.copies need.page page _ (λ x. tt) (h page))
between-kept v _ (gets_changes from m e) r s h = λ page.
    let now : Memory = record v.memory { store = fold (with_part from m.page) v.memory.store m.parts } in
    same v.time v.memory now page (copy_at v.memory page) refl (parts-same from m.page m.parts v.memory.store).intervals (h page)
between-kept v _ (gets_page from page values e) r s h = h
