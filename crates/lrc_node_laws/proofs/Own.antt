-- A node's own stored intervals have their changes, and its copies have what they wrote; every change keeps it so.
use Rattle.std.proofs.Common.{◌≡◌, ℕ, ◌+◌, ◌-◌, ◌<◌, List, [], ◌∷◌, Bool, true, false, refl, sym, ap, subst, ◌∙◌, ◌⊎◌, inl, inr, ⊎_elim, arith}
use Rattle.std.specs.Prelude.{Some, is_some, All, Contains, not, ◌==◌, ◌&&◌, fold, map, slice_index_or, if◌then◌else◌}
use Rattle.std.specs.List.{range_with_len}
use Rattle.std.proofs.lemmas.Bool.{cond_both, and_from, eq-eqb, false≢true}
use Rattle.std.proofs.lemmas.List.Elements.{All-nil, All-cons, All-head, All-tail, All-append, All-map, All-filter, All-weaker, All-contains_itself}
use Rattle.lrc_time.specs.Time.{entry}
use Rattle.lrc_page.specs.declared.changes.Change.{Change as PageChange}
use Rattle.lrc_store.specs.declared.key.Key.{Key}
use Rattle.lrc_store.specs.Interval.{IntervalRecord, index_of}
use Rattle.lrc_store.specs.Store.{NoticeRecord, StoredRecord, StoreRecord, interval_of, is_at, is_covered}
use Rattle.lrc_store.specs.Store.{unread, without_changes, added, stored_with, notice_with}
use Rattle.lrc_store.proofs.Stores.{interval_of-stored_with, kept_page}
use Rattle.lrc_store.proofs.Records.{interval_of-without_changes}
use Rattle.lrc_store.proofs.Orders.{cases_Contains, none_Contains}
use Rattle.lrc_envelope.specs.Records.{IndexedChangesRecord}
use Rattle.lrc_protocol.specs.Times.{next_time, indices_by}
use Rattle.lrc_protocol.specs.Pages.{Memory, all_changes, closed_interval, with_own, with_interval, with_part}
use Rattle.lrc_protocol.specs.Barriers.{clean_memory}
use Rattle.lrc_node_laws.specs.Own.{IsAttached, OwnAttached}
use Rattle.lrc_node_laws.proofs.Indices.{of_node}
use Rattle.lrc_node_laws.proofs.Change.{View, News, Change, receives, manages, moves, puts, closes, learns, resumes}
use Rattle.lrc_node_laws.proofs.Change.{begins, cleans, discards, misses, mends, gets_changes, gets_page}
use Rattle.lrc_node_laws.proofs.Ranges.{Ranged, clean-same}

-- ---- one interval gets changes

notice-known : (page : ℕ) (changes : List PageChange) (notice : NoticeRecord) → is_some notice.changes ≡ true
    → is_some (notice_with page changes notice).changes ≡ true
notice-known page changes notice h =
    cond_both (notice.page == page) (record { page = page; changes = Some changes }) notice (λ (n : NoticeRecord). is_some n.changes ≡ true) (λ e. refl)
    (λ e. h)

stored-attached : (key : Key) (changes : List PageChange) (stored : StoredRecord) → IsAttached stored → IsAttached (stored_with key changes stored)
stored-attached key changes stored h =
    cond_both (is_at key.node key.index stored) (record stored { notices = map (notice_with key.page changes) stored.notices }) stored IsAttached
    (λ e. All-map (λ (notice : NoticeRecord). is_some notice.changes ≡ true) (notice_with key.page changes) stored.notices
    (All-weaker (λ (notice : NoticeRecord). is_some notice.changes ≡ true)
    (λ (notice : NoticeRecord). is_some (notice_with key.page changes notice).changes ≡ true)
    (λ notice n. notice-known key.page changes notice n) stored.notices h))
    (λ e. h)

stored-node : (key : Key) (changes : List PageChange) (stored : StoredRecord) → (stored_with key changes stored).node ≡ stored.node
stored-node key changes stored = ap (λ (i : IntervalRecord). i.node) (interval_of-stored_with key changes stored)

-- what holds of each entry, whatever it gets
attached-entries : (me : ℕ) (key : Key) (changes : List PageChange) (entries : List StoredRecord)
    → All (λ (stored : StoredRecord). stored.node ≡ me → IsAttached stored) entries
    → All (λ (stored : StoredRecord). stored.node ≡ me → IsAttached stored) (map (stored_with key changes) entries)
attached-entries me key changes entries h =
    let P : StoredRecord → Type 0 = λ stored. stored.node ≡ me → IsAttached stored in
    All-map P (stored_with key changes) entries
    (All-weaker P (λ stored. P (stored_with key changes stored))
    (λ stored p e. stored-attached key changes stored (p (sym (stored-node key changes stored) ∙ e))) entries h)

parts-attached : (me from page : ℕ) (parts : List IndexedChangesRecord) (store : StoreRecord)
    → All (λ (stored : StoredRecord). stored.node ≡ me → IsAttached stored) store.entries
    → All (λ (stored : StoredRecord). stored.node ≡ me → IsAttached stored) (fold (with_part from page) store parts).entries
parts-attached me from page [] store h = h
parts-attached me from page (part ∷ parts) store h =
    parts-attached me from page parts (with_part from page store part)
    (attached-entries me (record { node = from; index = part.index; page = page }) part.changes store.entries h)

-- ---- the node closes an interval

-- known, or still to come of these
abbrev Coming : ℕ → ℕ → List (ℕ × List PageChange) → StoredRecord → NoticeRecord → Type 0
Coming me index pages stored notice =
    (is_some notice.changes ≡ true) ⊎ ((is_at me index stored ≡ true) × Contains (map (λ (page : ℕ × List PageChange). page.0) pages) notice.page)

abbrev AllComing : ℕ → ℕ → List (ℕ × List PageChange) → StoredRecord → Type 0
AllComing me index pages stored = stored.node ≡ me → All (Coming me index pages stored) stored.notices

is_at-kept : (key : Key) (changes : List PageChange) (me index : ℕ) (stored : StoredRecord)
    → is_at me index (stored_with key changes stored) ≡ is_at me index stored
is_at-kept key changes me index stored =
    ap (λ (i : IntervalRecord). (i.node == me) && (index_of i == index)) (interval_of-stored_with key changes stored)

comes-here : (me index : ℕ) (page : ℕ × List PageChange) (pages : List (ℕ × List PageChange)) (stored : StoredRecord) (notice : NoticeRecord)
    → is_at me index stored ≡ true → Coming me index (page ∷ pages) stored notice
    → Coming me index pages (stored_with (record { node = me; index = index; page = page.0 }) page.1 stored) (notice_with page.0 page.1 notice)
comes-here me index page pages stored notice at c =
    let key : Key = record { node = me; index = index; page = page.0 } in
    ⊎_elim
    (λ known. inl (notice-known page.0 page.1 notice known))
    (λ coming. ⊎_elim
    (λ (here : page.0 ≡ notice.page).
    let known : Bool → Type 0 = λ b. is_some (if b then record { page = page.0; changes = Some page.1 } else notice).changes ≡ true in
    inl (subst known (sym (eq-eqb notice.page page.0 (sym here))) refl))
    (λ later.
    inr (
      is_at-kept key page.1 me index stored ∙ at,
      subst (Contains (map (λ (page : ℕ × List PageChange). page.0) pages)) (sym (kept_page page.0 page.1 notice)) later,
    ))
    (cases_Contains page.0 (map (λ (page : ℕ × List PageChange). page.0) pages) notice.page coming.1))
    c

comes-all : (me index : ℕ) (page : ℕ × List PageChange) (pages : List (ℕ × List PageChange)) (stored : StoredRecord) (b : Bool) → is_at me index stored ≡ b
    → AllComing me index (page ∷ pages) stored → stored.node ≡ me
    → All (Coming me index pages (stored_with (record { node = me; index = index; page = page.0 }) page.1 stored))
    (if b then record stored { notices = map (notice_with page.0 page.1) stored.notices } else stored).notices
comes-all me index page pages stored true at h e =
    All-map (Coming me index pages (stored_with (record { node = me; index = index; page = page.0 }) page.1 stored)) (notice_with page.0 page.1) stored.notices
    (All-weaker (Coming me index (page ∷ pages) stored)
    (λ notice. Coming me index pages (stored_with (record { node = me; index = index; page = page.0 }) page.1 stored) (notice_with page.0 page.1 notice))
    (λ notice c. comes-here me index page pages stored notice at c) stored.notices (h e))
comes-all me index page pages stored false at h e =
    All-weaker (Coming me index (page ∷ pages) stored)
    (Coming me index pages (stored_with (record { node = me; index = index; page = page.0 }) page.1 stored))
    (λ notice c. ⊎_elim (λ known. inl known) (λ coming. absurd (false≢true (sym at ∙ coming.0))) c) stored.notices (h e)

own-entries : (me index : ℕ) (pages : List (ℕ × List PageChange)) (store : StoreRecord) → All (AllComing me index pages) store.entries
    → All (λ (stored : StoredRecord). stored.node ≡ me → IsAttached stored) (fold (with_own me index) store pages).entries
own-entries me index [] store h =
    All-weaker (AllComing me index []) (λ (stored : StoredRecord). stored.node ≡ me → IsAttached stored)
    (λ stored c e. All-weaker (Coming me index [] stored) (λ (notice : NoticeRecord). is_some notice.changes ≡ true)
    (λ notice x. ⊎_elim (λ known. known) (λ coming. absurd (none_Contains notice.page coming.1)) x) stored.notices (c e)) store.entries h
own-entries me index (page ∷ pages) store h =
    let key : Key = record { node = me; index = index; page = page.0 } in
    own-entries me index pages (with_own me index store page)
    (All-map (AllComing me index pages) (stored_with key page.1) store.entries
    (All-weaker (AllComing me index (page ∷ pages)) (λ stored. AllComing me index pages (stored_with key page.1 stored))
    (λ stored c e. comes-all me index page pages stored (is_at me index stored) refl c (sym (stored-node key page.1 stored) ∙ e)) store.entries h))

-- a new interval's notices
new-coming : (me index : ℕ) (pages : List (ℕ × List PageChange)) (i : IntervalRecord) → is_at me index (without_changes i) ≡ true
    → i.pages ≡ map (λ (page : ℕ × List PageChange). page.0) pages → AllComing me index pages (without_changes i)
new-coming me index pages i at e n =
    All-map (Coming me index pages (without_changes i)) unread i.pages
    (λ k d within. inr (at, subst (λ l. Contains l (slice_index_or i.pages k d)) e (All-contains_itself i.pages k d within)))

closes-attached : (me : ℕ) (stamp : List ℕ) (memory : Memory) → OwnAttached me memory → OwnAttached me (with_interval me stamp memory)
closes-attached me stamp memory h =
    let i : IntervalRecord = closed_interval me stamp memory in
    let index : ℕ = entry stamp me in
    let at : is_at me index (without_changes i) ≡ true =
    ap (λ (x : IntervalRecord). (x.node == me) && (index_of x == index)) (interval_of-without_changes i)
    ∙ and_from (me == me) (index == index) (eq-eqb me me refl) (eq-eqb index index refl) in
    own-entries me index (all_changes memory) (added memory.store i)
    (All-append (AllComing me index (all_changes memory)) memory.store.entries (without_changes i ∷ [])
    (All-weaker (λ (stored : StoredRecord). stored.node ≡ me → IsAttached stored) (AllComing me index (all_changes memory))
    (λ stored p e. All-weaker (λ (notice : NoticeRecord). is_some notice.changes ≡ true) (Coming me index (all_changes memory) stored)
    (λ notice k. inl k) stored.notices (p e))
    memory.store.entries h)
    (All-cons (AllComing me index (all_changes memory)) (without_changes i) [] (new-coming me index (all_changes memory) i at refl)
    (All-nil (AllComing me index (all_changes memory)))))

-- ---- news are of other nodes

pub none-own : (v : View) (time : List ℕ) (intervals : List IntervalRecord) → News v time intervals → v.setting.me < v.setting.nodes
    → All (λ (i : IntervalRecord). i.node ≡ v.setting.me → ⊥) intervals
none-own v time intervals news lt =
    let none : entry time v.setting.me - entry v.time v.setting.me ≡ 0 = omega (arith, news.own) in
    let indices : indices_by intervals v.setting.me ≡ [] =
    news.between v.setting.me lt ∙ ap (range_with_len (entry v.time v.setting.me + 1)) none in
    All-weaker (λ (i : IntervalRecord). v.setting.me ≡ i.node → ⊥) (λ (i : IntervalRecord). i.node ≡ v.setting.me → ⊥) (λ i f e. f (sym e)) intervals
    (of_node (λ k. ⊥) v.setting.me intervals (subst (All (λ k. ⊥)) (sym indices) (All-nil (λ k. ⊥))))

added-attached : (me : ℕ) (more : List IntervalRecord) (store : StoreRecord) → All (λ (i : IntervalRecord). i.node ≡ me → ⊥) more
    → All (λ (stored : StoredRecord). stored.node ≡ me → IsAttached stored) store.entries
    → All (λ (stored : StoredRecord). stored.node ≡ me → IsAttached stored) (fold added store more).entries
added-attached me [] store other h = h
added-attached me (i ∷ more) store other h =
    let P : StoredRecord → Type 0 = λ stored. stored.node ≡ me → IsAttached stored in
    added-attached me more (added store i) (All-tail (λ (i : IntervalRecord). i.node ≡ me → ⊥) i more other)
    (All-append P store.entries (without_changes i ∷ []) h
    (All-cons P (without_changes i) [] (λ e. absurd (All-head (λ (i : IntervalRecord). i.node ≡ me → ⊥) i more other e)) (All-nil P)))

-- ---- every change

same-attached : (me : ℕ) (a b : Memory) → b.store ≡ a.store → OwnAttached me a → OwnAttached me b
same-attached me a b e h = subst (λ (x : StoreRecord). All (λ (stored : StoredRecord). stored.node ≡ me → IsAttached stored) x.entries) (sym e) h

pub attached-kept : (v after : View) → Change v after → Ranged v → OwnAttached v.setting.me v.memory → OwnAttached after.setting.me after.memory
attached-kept v _ (receives from numbers) r h = h
attached-kept v _ (manages before manager e many) r h = h
attached-kept v _ (moves course n) r h = h
attached-kept v _ (puts word value w) r h = h
attached-kept v _ (closes wait w s) r h = closes-attached v.setting.me (next_time v.setting.me v.time) v.memory h
attached-kept v _ (learns time intervals o news) r h = added-attached v.setting.me intervals v.memory.store (none-own v time intervals news r.me) h
attached-kept v _ (resumes o) r h = h
attached-kept v _ (begins before time w t c long) r h = h
attached-kept v _ (cleans collection needs w met) r h =
    same-attached v.setting.me v.memory (clean_memory needs collection.kept v.memory) (clean-same needs collection.kept v.memory).store h
attached-kept v _ (discards collection w) r h =
    All-filter (λ (stored : StoredRecord). not (is_covered collection.time (interval_of stored)))
    (λ (stored : StoredRecord). stored.node ≡ v.setting.me → IsAttached stored)
    v.memory.store.entries h
attached-kept v _ (misses page w lt b n) r h = h
attached-kept v _ (mends need w met) r h = h
attached-kept v _ (gets_changes from m e) r h = parts-attached v.setting.me from m.page m.parts v.memory.store h
attached-kept v _ (gets_page from page values e) r h = h
