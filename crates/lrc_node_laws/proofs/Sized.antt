-- The changes that a node knows are of words of a page, and every change keeps them so.
use Rattle.std.proofs.Common.{◌≡◌, ℕ, ◌+◌, ◌<◌, List, [], ◌∷◌, refl, sym, subst}
use Rattle.std.specs.Prelude.{Option, Some, None, All, not, ◌==◌, fold, map, option_map, slice_index_or}
use Rattle.std.specs.List.{enumerate_from}
use Rattle.std.specs.Option.{ForSome}
use Rattle.std.proofs.lemmas.Bool.{cond_both}
use Rattle.std.proofs.lemmas.Option.{same_Some}
use Rattle.std.proofs.lemmas.List.Elements.{All-nil, All-cons, All-head, All-tail, All-append, All-map, All-filter, All-weaker}
use Rattle.lrc_page.specs.declared.changes.Change.{Change as PageChange}
use Rattle.lrc_page.specs.Changes.{changes_between}
use Rattle.lrc_page.specs.Page.{words_of}
use Rattle.lrc_page.proofs.ChangeLists.{each-between}
use Rattle.lrc_store.specs.declared.key.Key.{Key}
use Rattle.lrc_store.specs.Interval.{IntervalRecord}
use Rattle.lrc_store.specs.Store.{NoticeRecord, StoredRecord, StoreRecord, interval_of, is_at, is_covered}
use Rattle.lrc_store.specs.Store.{unread, without_changes, added, stored_with, notice_with}
use Rattle.lrc_envelope.specs.Records.{IndexedChangesRecord}
use Rattle.lrc_time.specs.Time.{entry}
use Rattle.lrc_protocol.specs.Times.{next_time}
use Rattle.lrc_protocol.specs.Pages.{Copy, valid, written, invalid, absent, changes_of, Memory, all_changes, closed_interval, with_own}
use Rattle.lrc_protocol.specs.Pages.{with_part}
use Rattle.lrc_node_laws.specs.Ranges.{IsWholeCopy}
use Rattle.lrc_node_laws.specs.Sized.{AreInPage, IsSized}
use Rattle.lrc_node_laws.proofs.Lists.{All-chosen}
use Rattle.lrc_node_laws.proofs.Change.{View, Change, receives, manages, moves, puts, closes, learns, resumes, begins}
use Rattle.lrc_node_laws.proofs.Change.{cleans, discards, misses, mends, gets_changes, gets_page}
use Rattle.lrc_node_laws.proofs.Ranges.{clean-same}
use Rattle.lrc_node_laws.proofs.Whole.{Whole}

abbrev Known : ℕ → NoticeRecord → Type 0
Known words notice = ForSome notice.changes (AreInPage words)

abbrev pub AllSized : ℕ → StoreRecord → Type 0
AllSized words store = All (IsSized words) store.entries

-- ---- one key

notice-sized : (words page : ℕ) (changes : List PageChange) (notice : NoticeRecord) → AreInPage words changes → Known words notice
    → Known words (notice_with page changes notice)
notice-sized words page changes notice c h =
    cond_both (notice.page == page) (record { page = page; changes = Some changes }) notice (Known words)
    (λ e found s. subst (AreInPage words) (same_Some changes found s) c)
    (λ e. h)

stored-sized : (words : ℕ) (key : Key) (changes : List PageChange) (stored : StoredRecord) → AreInPage words changes → IsSized words stored
    → IsSized words (stored_with key changes stored)
stored-sized words key changes stored c h =
    cond_both (is_at key.node key.index stored) (record stored { notices = map (notice_with key.page changes) stored.notices }) stored (IsSized words)
    (λ e. All-map (Known words) (notice_with key.page changes) stored.notices
    (All-weaker (Known words) (λ notice. Known words (notice_with key.page changes notice))
    (λ notice n. notice-sized words key.page changes notice c n) stored.notices h))
    (λ e. h)

attached-sized : (words : ℕ) (key : Key) (changes : List PageChange) (entries : List StoredRecord) → AreInPage words changes → All (IsSized words) entries
    → All (IsSized words) (map (stored_with key changes) entries)
attached-sized words key changes entries c h =
    All-map (IsSized words) (stored_with key changes) entries
    (All-weaker (IsSized words) (λ stored. IsSized words (stored_with key changes stored)) (λ stored s. stored-sized words key changes stored c s) entries h)

-- ---- many

own-sized : (words me index : ℕ) (pages : List (ℕ × List PageChange)) (store : StoreRecord) → All (λ (page : ℕ × List PageChange). AreInPage words page.1) pages
    → AllSized words store → AllSized words (fold (with_own me index) store pages)
own-sized words me index [] store c h = h
own-sized words me index (page ∷ pages) store c h =
    let P : ℕ × List PageChange → Type 0 = λ page. AreInPage words page.1 in
    own-sized words me index pages (with_own me index store page) (All-tail P page pages c)
    (attached-sized words (record { node = me; index = index; page = page.0 }) page.1 store.entries (All-head P page pages c) h)

parts-sized : (words from page : ℕ) (parts : List IndexedChangesRecord) (store : StoreRecord)
    → All (λ (part : IndexedChangesRecord). AreInPage words part.changes) parts
    → AllSized words store → AllSized words (fold (with_part from page) store parts)
parts-sized words from page [] store c h = h
parts-sized words from page (part ∷ parts) store c h =
    let P : IndexedChangesRecord → Type 0 = λ part. AreInPage words part.changes in
    parts-sized words from page parts (with_part from page store part) (All-tail P part parts c)
    (attached-sized words (record { node = from; index = part.index; page = page }) part.changes store.entries (All-head P part parts c) h)

nothing-known : (words : ℕ) (i : IntervalRecord) → IsSized words (without_changes i)
nothing-known words i = All-map (Known words) unread i.pages (λ k d within found s. cc)

one-sized : (words : ℕ) (i : IntervalRecord) (store : StoreRecord) → AllSized words store → AllSized words (added store i)
one-sized words i store h =
    All-append (IsSized words) store.entries (without_changes i ∷ []) h
    (All-cons (IsSized words) (without_changes i) [] (nothing-known words i) (All-nil (IsSized words)))

added-sized : (words : ℕ) (more : List IntervalRecord) (store : StoreRecord) → AllSized words store → AllSized words (fold added store more)
added-sized words [] store h = h
added-sized words (i ∷ more) store h = added-sized words more (added store i) (one-sized words i store h)

-- ---- the node's own changes

each-place : {X : Type 0} (P : X → Type 0) (start : ℕ) (xs : List X) → All P xs → All (λ (place : ℕ × X). P place.1) (enumerate_from start xs)
each-place P start [] h = All-nil (λ place. P place.1)
each-place P start (x ∷ xs) h =
    All-cons (λ place. P place.1) (start, x) (enumerate_from (start + 1) xs) (All-head P x xs h) (each-place P (start + 1) xs (All-tail P x xs h))

changes-sized : (nodes words : ℕ) (copy : Copy) (changes : List PageChange) → IsWholeCopy nodes words copy → changes_of copy ≡ Some changes
    → AreInPage words changes
changes-sized nodes words (written values twin) changes h e =
    subst (AreInPage words) (same_Some (changes_between twin values) changes e)
    (λ k d within. subst (λ n. (slice_index_or (changes_between twin values) k d).offset < n) h.0 (each-between twin values k d within).0)
changes-sized nodes words (valid values) changes h e = cc
changes-sized nodes words (invalid values since) changes h e = cc
changes-sized nodes words absent changes h e = cc

place-sized : (nodes words : ℕ) (place : ℕ × Copy) (page : ℕ × List PageChange) (o : Option (List PageChange)) → changes_of place.1 ≡ o
    → IsWholeCopy nodes words place.1
    → option_map (λ changes. (place.0, changes)) o ≡ Some page → AreInPage words page.1
place-sized nodes words place page None c h e = cc
place-sized nodes words place page (Some changes) c h e =
    subst (λ (p : ℕ × List PageChange). AreInPage words p.1) (same_Some (place.0, changes) page e) (changes-sized nodes words place.1 changes h c)

pub all_changes-sized : (nodes words : ℕ) (memory : Memory) → All (IsWholeCopy nodes words) memory.copies
    → All (λ (page : ℕ × List PageChange). AreInPage words page.1) (all_changes memory)
all_changes-sized nodes words memory h =
    All-chosen (λ (place : ℕ × Copy). IsWholeCopy nodes words place.1) (λ (page : ℕ × List PageChange). AreInPage words page.1)
    (λ place. option_map (λ changes. (place.0, changes)) (changes_of place.1))
    (λ place page w e. place-sized nodes words place page (changes_of place.1) refl w e)
    (enumerate_from 0 memory.copies) (each-place (IsWholeCopy nodes words) 0 memory.copies h)

-- ---- every change

pub sized-kept : (v after : View) → Change v after → Whole v.setting.nodes (words_of v.size) v.memory → AllSized (words_of v.size) v.memory.store
    → AllSized (words_of after.size) after.memory.store
sized-kept v _ (receives from numbers) w h = h
sized-kept v _ (manages before manager e many) w h = h
sized-kept v _ (moves course n) w h = h
sized-kept v _ (puts word value e) w h = h
sized-kept v _ (closes wait e s) w h =
    let me : ℕ = v.setting.me in
    let stamp : List ℕ = next_time me v.time in
    own-sized (words_of v.size) me (entry stamp me) (all_changes v.memory) (added v.memory.store (closed_interval me stamp v.memory))
    (all_changes-sized v.setting.nodes (words_of v.size) v.memory w.copies)
    (one-sized (words_of v.size) (closed_interval me stamp v.memory) v.memory.store h)
sized-kept v _ (learns time intervals o news) w h = added-sized (words_of v.size) intervals v.memory.store h
sized-kept v _ (resumes o) w h = h
sized-kept v _ (begins before time e t c long) w h = h
sized-kept v _ (cleans collection needs e met) w h =
    subst (AllSized (words_of v.size)) (sym (clean-same needs collection.kept v.memory).store) h
sized-kept v _ (discards collection e) w h =
    All-filter (λ (stored : StoredRecord). not (is_covered collection.time (interval_of stored))) (IsSized (words_of v.size)) v.memory.store.entries h
sized-kept v _ (misses page e lt b n) w h = h
sized-kept v _ (mends need e met) w h = h
sized-kept v _ (gets_changes from m e) w h = parts-sized (words_of v.size) from m.page m.parts v.memory.store e.changes h
sized-kept v _ (gets_page from page values e) w h = h
