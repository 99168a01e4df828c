-- Stored intervals of which no changes of a page are known, and what keeps them so.
use Rattle.std.proofs.Common.{◌≡◌, ℕ, ◌≤◌, List, [], ◌∷◌, Bool, true, false, refl, sym, ap, subst, ◌∙◌, ◌⊎◌, inl, inr, ⊎_elim}
use Rattle.std.specs.Prelude.{Option, Some, None, is_none, All, not, ◌==◌, fold, map, find, option_and_then, if◌then◌else◌}
use Rattle.std.proofs.lemmas.Bool.{and_parts, not-true, eqb-true, le-leb, false≢true}
use Rattle.std.proofs.lemmas.List.Elements.{All-nil, All-cons, All-head, All-tail, All-append, All-map, All-weaker, All-filter}
use Rattle.lrc_time.specs.Time.{entry, knows}
use Rattle.lrc_page.specs.declared.changes.Change.{Change}
use Rattle.lrc_store.specs.declared.key.Key.{Key}
use Rattle.lrc_store.specs.Interval.{IntervalRecord, index_of, by_weight}
use Rattle.lrc_store.specs.Store.{NoticeRecord, StoredRecord, StoreRecord, interval_of, intervals_of, is_at, stored_at, notice_of, changes_at}
use Rattle.lrc_store.specs.Store.{unread, without_changes, added, stored_with, notice_with, is_covered, discarded, is_missing, key_of, missing_of}
use Rattle.lrc_store.proofs.Lookups.{passes-find}
use Rattle.lrc_envelope.specs.Records.{IndexedChangesRecord}
use Rattle.lrc_protocol.specs.Pages.{Memory, with_own, with_part}
use Rattle.lrc_node_laws.specs.Stored.{StoresExactly}
use Rattle.lrc_node_laws.proofs.Awaited.{All-unmap}
use Rattle.lrc_node_laws.proofs.Exact.{stored-within}
use Rattle.lrc_node_laws.proofs.Keys.{All-part}

-- a notice that is of the page has no changes
abbrev pub HasNoChanges : ℕ → NoticeRecord → Type 0
HasNoChanges page notice = notice.page ≡ page → is_none notice.changes ≡ true

-- a stored interval of another node, which the time does not know, has no changes of the page
abbrev pub IsUnread : ℕ → ℕ → List ℕ → StoredRecord → Type 0
IsUnread me page since stored =
    (stored.node ≡ me → ⊥) → knows since stored.node (index_of (interval_of stored)) ≡ false → All (HasNoChanges page) stored.notices

-- each such interval of a store
abbrev pub AreUnread : ℕ → ℕ → List ℕ → StoreRecord → Type 0
AreUnread me page since store = All (IsUnread me page since) store.entries

-- ---- intervals are added

new-unread : (me page : ℕ) (since : List ℕ) (i : IntervalRecord) → IsUnread me page since (without_changes i)
new-unread me page since i other beyond = All-map (HasNoChanges page) unread i.pages (λ k d within e. refl)

pub one-unread : (me page : ℕ) (since : List ℕ) (i : IntervalRecord) (store : StoreRecord) → AreUnread me page since store
    → AreUnread me page since (added store i)
one-unread me page since i store h =
    All-append (IsUnread me page since) store.entries (without_changes i ∷ []) h
    (All-cons (IsUnread me page since) (without_changes i) [] (new-unread me page since i) (All-nil (IsUnread me page since)))

pub more-unread : (me page : ℕ) (since : List ℕ) (more : List IntervalRecord) (store : StoreRecord) → AreUnread me page since store
    → AreUnread me page since (fold added store more)
more-unread me page since [] store h = h
more-unread me page since (i ∷ more) store h = more-unread me page since more (added store i) (one-unread me page since i store h)

-- ---- changes come

-- of this node's own interval, or of another page
attached-unread : (me page : ℕ) (since : List ℕ) (key : Key) (changes : List Change) → (key.node ≡ me) ⊎ (key.page ≡ page → ⊥) → (stored : StoredRecord)
    → IsUnread me page since stored → IsUnread me page since (stored_with key changes stored)
attached-unread me page since key changes apart stored h = by_test (is_at key.node key.index stored) refl
  where
    still-without : (key.page ≡ page → ⊥) → (notice : NoticeRecord) (b : Bool) → HasNoChanges page notice
        → HasNoChanges page (if b then record { page = key.page; changes = Some changes } else notice)
    still-without ne notice true without = λ e. absurd (ne e)
    still-without ne notice false without = without

    by_test : (b : Bool) → is_at key.node key.index stored ≡ b
        → IsUnread me page since (if b then record stored { notices = map (notice_with key.page changes) stored.notices } else stored)
    by_test true at = λ other beyond.
        ⊎_elim
        (λ (own : key.node ≡ me). absurd (other (eqb-true stored.node key.node (and_parts _ _ at).0 ∙ own)))
        (λ ne.
        All-map (HasNoChanges page) (notice_with key.page changes) stored.notices
        (All-weaker (HasNoChanges page) (λ notice. HasNoChanges page (notice_with key.page changes notice))
        (λ notice without. still-without ne notice (notice.page == key.page) without) stored.notices (h other beyond)))
        apart
    by_test false at = h

pub own-unread : (me page : ℕ) (since : List ℕ) (index : ℕ) (pages : List (ℕ × List Change)) (store : StoreRecord) → AreUnread me page since store
    → AreUnread me page since (fold (with_own me index) store pages)
own-unread me page since index [] store h = h
own-unread me page since index (own ∷ pages) store h =
    let key : Key = record { node = me; index = index; page = own.0 } in
    own-unread me page since index pages (with_own me index store own)
    (All-map (IsUnread me page since) (stored_with key own.1) store.entries
    (All-weaker (IsUnread me page since) (λ stored. IsUnread me page since (stored_with key own.1 stored))
    (λ stored u. attached-unread me page since key own.1 (inl refl) stored u) store.entries h))

pub parts-unread : (me page : ℕ) (since : List ℕ) (from other : ℕ) (parts : List IndexedChangesRecord) (store : StoreRecord) → (other ≡ page → ⊥)
    → AreUnread me page since store → AreUnread me page since (fold (with_part from other) store parts)
parts-unread me page since from other [] store ne h = h
parts-unread me page since from other (part ∷ parts) store ne h =
    let key : Key = record { node = from; index = part.index; page = other } in
    parts-unread me page since from other parts (with_part from other store part) ne
    (All-map (IsUnread me page since) (stored_with key part.changes) store.entries
    (All-weaker (IsUnread me page since) (λ stored. IsUnread me page since (stored_with key part.changes stored))
    (λ stored u. attached-unread me page since key part.changes (inr ne) stored u) store.entries h))

-- ---- the node's time knows all that is stored

pub all-known : (me page : ℕ) (time : List ℕ) (memory : Memory) → StoresExactly time memory → AreUnread me page time memory.store
all-known me page time memory s =
    let Within : IntervalRecord → Type 0 = λ i. index_of i ≤ entry time i.node in
    All-weaker (λ (stored : StoredRecord). Within (interval_of stored)) (IsUnread me page time)
    (λ stored within other beyond.
    absurd (false≢true (sym beyond ∙ le-leb (index_of (interval_of stored)) (entry time stored.node) within)))
    memory.store.entries (All-unmap Within interval_of memory.store.entries (stored-within time memory s))

pub left-known : (me page : ℕ) (time : List ℕ) (memory : Memory) → StoresExactly time memory → AreUnread me page time (discarded memory.store time)
left-known me page time memory s =
    All-filter (λ (stored : StoredRecord). not (is_covered time (interval_of stored))) (IsUnread me page time) memory.store.entries
    (all-known me page time memory s)

-- ---- so no changes are known of what is missing

-- what is found is one of the elements
found-passes : {X : Type 0} (P : X → Type 0) (test : X → Bool) (xs : List X) (x : X) → All P xs → find test xs ≡ Some x → P x
found-passes P test [] x h e = absurd (cc)
found-passes P test (y ∷ ys) x h e = by_test (λ later. found-passes P test ys x (All-tail P y ys h) later) (test y) e
  where
    by_test : (find test ys ≡ Some x → P x) → (b : Bool) → (if b then Some y else find test ys) ≡ Some x → P x
    by_test rest true e = let same : y ≡ x = cc in subst P same (All-head P y ys h)
    by_test rest false e = rest e

no-changes : (page : ℕ) (notices : List NoticeRecord) (found : Option NoticeRecord) → find (λ (notice : NoticeRecord). notice.page == page) notices ≡ found
    → All (HasNoChanges page) notices → is_none (option_and_then (λ (notice : NoticeRecord). notice.changes) found) ≡ true
no-changes page notices None e h = refl
no-changes page notices (Some notice) e h =
    let test : NoticeRecord → Bool = λ notice. notice.page == page in
    found-passes (HasNoChanges page) test notices notice h e (eqb-true notice.page page (passes-find test notices notice e))

unread-none : (me page : ℕ) (since : List ℕ) (store : StoreRecord) (i : IntervalRecord) (found : Option StoredRecord)
    → stored_at store.entries i.node (index_of i) ≡ found → AreUnread me page since store → (i.node ≡ me → ⊥)
    → knows since i.node (index_of i) ≡ false
    → is_none (option_and_then (λ (notice : NoticeRecord). notice.changes) (option_and_then (notice_of page) found)) ≡ true
unread-none me page since store i None e h other beyond = refl
unread-none me page since store i (Some stored) e h other beyond =
    let parts : _ = and_parts _ _ (passes-find (is_at i.node (index_of i)) store.entries stored e) in
    let node : stored.node ≡ i.node = eqb-true stored.node i.node parts.0 in
    let index : index_of (interval_of stored) ≡ index_of i = eqb-true _ _ parts.1 in
    let here : knows since stored.node (index_of (interval_of stored)) ≡ false =
    ap (λ n. knows since n (index_of (interval_of stored))) node ∙ ap (knows since i.node) index ∙ beyond in
    no-changes page stored.notices (notice_of page stored) refl
    (found-passes (IsUnread me page since) (is_at i.node (index_of i)) store.entries stored h e (λ own. other (sym node ∙ own)) here)

pub missing-unknown : (me page : ℕ) (since : List ℕ) (store : StoreRecord) → AreUnread me page since store
    → All (λ (key : Key). (key.node ≡ me → ⊥) → is_none (changes_at store key) ≡ true) (missing_of store page since)
missing-unknown me page since store h =
    let Unknown : Key → Type 0 = λ key. (key.node ≡ me → ⊥) → is_none (changes_at store key) ≡ true in
    All-map Unknown (key_of page) _
    (All-part by_weight (is_missing page since) (λ (i : IntervalRecord). Unit {0}) (λ i. Unknown (key_of page i))
    (λ i any e other.
    unread-none me page since store i (stored_at store.entries i.node (index_of i)) refl h other
    (not-true (knows since i.node (index_of i)) (and_parts _ _ e).1))
    (intervals_of store) (λ k d within. tt))
