-- Of a page that no need is of, nothing that its copy lacks was fetched, and every change keeps it so.
use Rattle.std.proofs.Common.{◌≡◌, ℕ, ◌<◌, List, [], ◌∷◌, Bool, true, false, refl, sym, ap, subst, ◌∙◌, ◌⊎◌, ⊎_elim}
use Rattle.std.specs.Prelude.{All, ◌==◌, fold, map, slice_index_or}
use Rattle.std.specs.List.{list_any}
use Rattle.std.proofs.lemmas.Bool.{and_parts, or_cases, or_left, or_right, false≢true}
use Rattle.std.proofs.lemmas.List.Elements.{All-nil, All-weaker}
use Rattle.lrc_page.specs.Page.{words_of, zero_page}
use Rattle.lrc_page.specs.Place.{page_of, pages_of, offset_of}
use Rattle.lrc_program.specs.declared.Program.{Program}
use Rattle.lrc_store.specs.Store.{StoreRecord}
use Rattle.lrc_protocol.specs.Times.{next_time}
use Rattle.lrc_protocol.specs.Pages.{Copy, valid, absent, Memory, fresh_memory, copy_at, with_written_word, Need, awaits_changes, changes_came, page_came}
use Rattle.lrc_protocol.specs.Pages.{with_part, repaired}
use Rattle.lrc_protocol.specs.Barriers.{with_keepers, clean_memory}
use Rattle.lrc_protocol.specs.Node.{Wait, access, needs_of, OptionsRecord}
use Rattle.lrc_protocol.specs.Turn.{with_needs}
use Rattle.lrc_node_laws.specs.Needs.{FitsNeed}
use Rattle.lrc_node_laws.specs.Ranges.{CollectsAt}
use Rattle.lrc_node_laws.specs.Stored.{StoresExactly}
use Rattle.lrc_node_laws.proofs.Change.{View, pages_in, Change, receives, manages, moves, puts, closes, learns, resumes, Walk, stands, goes}
use Rattle.lrc_node_laws.proofs.Change.{begins, cleans, discards, misses, mends, gets_changes, gets_page}
use Rattle.lrc_node_laws.proofs.Ranges.{Ranged, SameRest, clean-same}
use Rattle.lrc_node_laws.proofs.Needs.{needs-with, same_pages, open-needs}
use Rattle.lrc_node_laws.proofs.Needed.{Needed, changed_page, sent_page}
use Rattle.lrc_node_laws.proofs.Replies.{bases-copies}
use Rattle.lrc_node_laws.proofs.OwnCopies.{set-copy}
use Rattle.lrc_node_laws.proofs.Reach.{first_view}
use Rattle.lrc_node_laws.proofs.Always.{ranged, exact, needed, slice_index_or-replicate}
use Rattle.lrc_miss_laws.proofs.Unread.{IsUnread, AreUnread, parts-unread}
use Rattle.lrc_miss_laws.proofs.Unfetched.{IsUnfetched, unfetched-still, write-unfetched, closes-unfetched, learns-unfetched, mends-unfetched, discards-unfetched}

-- whether something is needed of the page
abbrev is_needed : List Need → ℕ → Bool
is_needed needs page = list_any (λ named. named == page) (map (λ (need : Need). need.page) needs)

-- of each page that no need is of, nothing that its copy lacks was fetched
abbrev pub AreUnfetched : View → Type 0
AreUnfetched v = (page : ℕ) → is_needed (needs_of v.wait) page ≡ false → IsUnfetched v.setting.me page v.memory (copy_at v.memory page)

-- ---- what is needed

-- what is awaited is needed
awaited-needed : (page from : ℕ) (indices : List ℕ) (needs : List Need) → list_any (awaits_changes page from indices) needs ≡ true
    → is_needed needs page ≡ true
awaited-needed page from indices [] e = e
awaited-needed page from indices (need ∷ needs) e =
    ⊎_elim
    (λ (here : awaits_changes page from indices need ≡ true). or_left (need.page == page) (is_needed needs page) (and_parts _ _ here).0)
    (λ later. or_right (need.page == page) (is_needed needs page) (awaited-needed page from indices needs later))
    (or_cases (awaits_changes page from indices need) (list_any (awaits_changes page from indices) needs) e)

-- the same pages are needed after a reply
same-needed : (change : Need → Need) → ((need : Need) → (change need).page ≡ need.page) → (w : Wait) (page : ℕ)
    → is_needed (needs_of (with_needs change w)) page ≡ false → is_needed (needs_of w) page ≡ false
same-needed change same w page e =
    ap (list_any (λ named. named == page)) (sym (same_pages change same (needs_of w)))
    ∙ ap (λ needs. is_needed needs page) (sym (needs-with change w))
    ∙ e

-- who needs nothing
pub unfetched-all : (v : View) → needs_of v.wait ≡ [] → AreUnfetched v → (page : ℕ) → IsUnfetched v.setting.me page v.memory (copy_at v.memory page)
unfetched-all v none h page = h page (ap (λ needs. is_needed needs page) none)

-- ---- pages are mended

module _ (v : View) (ranged : Ranged v) (needed : Needed v) (h : AreUnfetched v) where
  within : All (λ (need : Need). need.page < pages_in v) (needs_of v.wait)
  within =
      All-weaker (FitsNeed v.setting.nodes (pages_in v) (words_of v.size) v.memory) (λ (need : Need). need.page < pages_in v) (λ need fits. fits.in_range)
      (needs_of v.wait) needed.each

  -- with all that it waits for
  mended-unfetched : (needs : List Need) → needs_of v.wait ≡ needs → (page : ℕ)
      → IsUnfetched v.setting.me page v.memory (copy_at (fold repaired v.memory needs) page)
  mended-unfetched needs e page =
      mends-unfetched v.setting.me page (pages_in v) v.memory needs v.memory ranged.memory.copies
      (subst (All (λ (need : Need). need.page < pages_in v)) e within)
      (λ n. h page (ap (λ needs. is_needed needs page) e ∙ n))

  mends-one : (need : Need) → v.wait ≡ access need → (page : ℕ)
      → IsUnfetched v.setting.me page (repaired v.memory need) (copy_at (repaired v.memory need) page)
  mends-one need w page =
      unfetched-still v.setting.me page v.memory (repaired v.memory need) (copy_at (repaired v.memory need) page) refl (λ since u. u)
      (mended-unfetched (need ∷ []) (ap needs_of w) page)

  cleans-unfetched : (needs : List Need) (kept : List ℕ) → needs_of v.wait ≡ needs → (page : ℕ)
      → IsUnfetched v.setting.me page (clean_memory needs kept v.memory) (copy_at (clean_memory needs kept v.memory) page)
  cleans-unfetched needs kept e page =
      let now : Memory = clean_memory needs kept v.memory in
      let rest : SameRest v.memory now = clean-same needs kept v.memory in
      unfetched-still v.setting.me page v.memory now (copy_at now page) rest.collected
      (λ since u. subst (λ (store : StoreRecord). AreUnread v.setting.me page since store) (sym rest.store) u)
      (subst (λ (copies : List Copy). IsUnfetched v.setting.me page v.memory (slice_index_or copies page absent))
      (sym (bases-copies kept (fold repaired v.memory needs)))
      (mended-unfetched needs e page))

-- ---- every change

unfetched-kept : (v after : View) → Change v after → Ranged v → StoresExactly v.time v.memory → Needed v → AreUnfetched v → AreUnfetched after
unfetched-kept v _ (receives from numbers) r s n h = h
unfetched-kept v _ (manages before manager e many) r s n h = h
unfetched-kept v _ (moves course none) r s n h = h
unfetched-kept v _ (puts word value w) r s n h = λ page free.
    let me : ℕ = v.setting.me in
    let now : Memory = with_written_word v.size word value v.memory in
    unfetched-still me page v.memory now (copy_at now page) refl (λ since u. u)
    (set-copy (IsUnfetched me page v.memory) v.memory.copies (page_of word v.size) page _
    (λ x. write-unfetched me page (offset_of word v.size) value v.memory (copy_at v.memory (page_of word v.size)) x) (h page free))
unfetched-kept v _ (closes wait w x) r s n h = λ page free.
    closes-unfetched v.setting.me page (next_time v.setting.me v.time) v.memory (unfetched-all v (ap needs_of w) h page)
unfetched-kept v _ (learns time intervals o news) r s n h = λ page free.
    learns-unfetched v.setting.me page v.time intervals v.memory s (h page free)
unfetched-kept v _ (resumes o) r s n h = λ page free. unfetched-all v (open-needs v.wait o) h page
unfetched-kept v _ (begins before time w t c long) r s n h = λ page free.
    unfetched-still v.setting.me page v.memory (with_keepers v.memory) (copy_at v.memory page) refl (λ since u. u) (unfetched-all v (ap needs_of w) h page)
unfetched-kept v _ (cleans collection needs w met) r s n h = λ page free. cleans-unfetched v r n h needs collection.kept (ap needs_of w) page
unfetched-kept v _ (discards collection w) r s n h = λ page free.
    let same : collection.time ≡ v.time = subst (CollectsAt v.time) w r.present in
    discards-unfetched v.setting.me page collection.time v.memory (subst (λ time. StoresExactly time v.memory) (sym same) s)
unfetched-kept v _ (misses page w lt b next) r s n h = λ page free. unfetched-all v (ap needs_of w) h page
unfetched-kept v _ (mends need w met) r s n h = λ page free. mends-one v r n h need w page
unfetched-kept v _ (gets_changes from m e) r s n h = λ page free.
    let now : Memory = record v.memory { store = fold (with_part from m.page) v.memory.store m.parts } in
    let before : is_needed (needs_of v.wait) page ≡ false = same-needed (changes_came m.page from) (changed_page m.page from) v.wait page free in
    let other : m.page ≡ page → ⊥ = λ same.
    false≢true (sym before ∙ ap (is_needed (needs_of v.wait)) (sym same) ∙ awaited-needed m.page from _ (needs_of v.wait) e.asked) in
    unfetched-still v.setting.me page v.memory now (copy_at v.memory page) refl
    (λ since u. parts-unread v.setting.me page since from m.page m.parts v.memory.store other u) (h page before)
unfetched-kept v _ (gets_page from sent values e) r s n h = λ page free.
    h page (same-needed (page_came sent values) (sent_page sent values) v.wait page free)

-- ---- a fresh node

first-copy : (me page : ℕ) (memory : Memory) (values : List ℕ) (copy : Copy) → AreUnread me page memory.collected memory.store
    → (copy ≡ valid values) ⊎ (copy ≡ absent) → IsUnfetched me page memory copy
first-copy me page memory values copy unread c =
    ⊎_elim (λ v. subst (IsUnfetched me page memory) (sym v) tt) (λ a. subst (IsUnfetched me page memory) (sym a) unread) c

module _ (program : Program) (nodes : ℕ) (options : OptionsRecord) (me : ℕ) (among : me < nodes) where
  unfetched-first : AreUnfetched (first_view program nodes options me among)
  unfetched-first page free =
      let pages : ℕ = pages_of program.words options.size in
      let memory : Memory = fresh_memory nodes pages options.size in
      first-copy me page memory (zero_page options.size) (copy_at memory page) (All-nil (IsUnread me page memory.collected))
      (slice_index_or-replicate pages (valid (zero_page options.size)) page)

  -- every node that is reached
  pub unfetched : (v : View) → Walk (first_view program nodes options me among) v → AreUnfetched v
  unfetched _ stands = unfetched-first
  unfetched _ (goes {v = v} {after = after} w c) =
      unfetched-kept v after c (ranged program nodes options me among v w) (exact program nodes options me among v w)
      (needed program nodes options me among v w) (unfetched v w)
