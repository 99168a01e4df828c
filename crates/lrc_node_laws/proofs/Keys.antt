-- What is known of the changes of a key, and the keys that a copy lacks.
use Rattle.std.proofs.Common.{◌≡◌, ◌≢◌, ℕ, zero, suc, ◌<◌, List, [], ◌∷◌, Bool, true, false, refl, sym, ap, subst, ◌∙◌, ◌⊎◌, inl, inr, ⊎_elim, arith}
use Rattle.std.specs.Prelude.{Option, Some, None, is_some, is_none, All, AllPairs, Contains, ◌==◌, ◌&&◌, ◌||◌}
use Rattle.std.specs.Prelude.{fold, map, find, option_map, option_and_then, if◌then◌else◌}
use Rattle.std.specs.List.{list_any}
use Rattle.std.proofs.lemmas.Bool.{cond_both, and_parts, and_from, cases_eq, eqb-true, eq-eqb, false_from_ne_true}
use Rattle.std.proofs.lemmas.List.Elements.{All-nil, All-cons, All-head, All-tail, All-map, All-contains, All-contains_itself}
use Rattle.lrc_page.specs.declared.changes.Change.{Change}
use Rattle.lrc_store.specs.declared.key.Key.{Key}
use Rattle.lrc_store.specs.Interval.{IntervalRecord, index_of, by_weight}
use Rattle.lrc_store.specs.Order.{placed, ascending_part}
use Rattle.lrc_store.specs.Store.{NoticeRecord, StoredRecord, StoreRecord, IsStore, interval_of, intervals_of, is_at, stored_at, notice_of}
use Rattle.lrc_store.specs.Store.{notice_at, changes_at, attached, stored_with, notice_with, is_missing, key_of, missing_of}
use Rattle.lrc_store.proofs.Lookups.{find-map, passes-find, notice_at-attached_other}
use Rattle.lrc_store.proofs.Orders.{cases_Contains, none_Contains}
use Rattle.lrc_store.proofs.Stores.{interval_of-stored_with, kept_page}
use Rattle.lrc_envelope.specs.Records.{IndexedChangesRecord}
use Rattle.lrc_protocol.specs.Pages.{with_part}

-- ---- one key gets changes

stored_at-attached : (store : StoreRecord) (key : Key) (changes : List Change) (node index : ℕ)
    → stored_at (attached store key changes).entries node index ≡ option_map (stored_with key changes) (stored_at store.entries node index)
stored_at-attached store key changes node index =
    find-map (is_at node index) (stored_with key changes) store.entries
    (λ stored. ap (λ (i : IntervalRecord). (i.node == node) && (index_of i == index)) (interval_of-stored_with key changes stored))

notice_of-stored_with : (key : Key) (changes : List Change) (stored : StoredRecord) → is_at key.node key.index stored ≡ true
    → notice_of key.page (stored_with key changes stored) ≡ option_map (notice_with key.page changes) (notice_of key.page stored)
notice_of-stored_with key changes stored at =
    ap (λ b. notice_of key.page (if b then record stored { notices = map (notice_with key.page changes) stored.notices } else stored)) at
    ∙ find-map (λ notice. notice.page == key.page) (notice_with key.page changes) stored.notices
    (λ notice. ap (λ p. p == key.page) (kept_page key.page changes notice))

notice_by : (store : StoreRecord) (key : Key) (changes : List Change) (found : Option StoredRecord) → stored_at store.entries key.node key.index ≡ found
    → option_and_then (notice_of key.page) (option_map (stored_with key changes) found)
    ≡ option_map (notice_with key.page changes) (option_and_then (notice_of key.page) found)
notice_by store key changes None e = refl
notice_by store key changes (Some stored) e =
    notice_of-stored_with key changes stored (passes-find (is_at key.node key.index) store.entries stored e)

pub notice_at-here : (store : StoreRecord) (key : Key) (changes : List Change)
    → notice_at (attached store key changes) key ≡ option_map (notice_with key.page changes) (notice_at store key)
notice_at-here store key changes =
    ap (option_and_then (notice_of key.page)) (stored_at-attached store key changes key.node key.index)
    ∙ notice_by store key changes (stored_at store.entries key.node key.index) refl

-- ---- known, and noticed

abbrev pub IsKnown : StoreRecord → Key → Type 0
IsKnown store key = is_none (changes_at store key) ≡ false

abbrev pub IsNoticed : StoreRecord → Key → Type 0
IsNoticed store key = is_some (notice_at store key) ≡ true

noticed_by : (page : ℕ) (changes : List Change) (o : Option NoticeRecord) → is_some (option_map (notice_with page changes) o) ≡ is_some o
noticed_by page changes None = refl
noticed_by page changes (Some notice) = refl

-- the notice that is found is of the page
pub notice_page : (page : ℕ) (found : Option StoredRecord) (notice : NoticeRecord) → option_and_then (notice_of page) found ≡ Some notice → notice.page ≡ page
notice_page page None notice e = cc
notice_page page (Some stored) notice e = eqb-true notice.page page (passes-find (λ (notice : NoticeRecord). notice.page == page) stored.notices notice e)

now_known : (page : ℕ) (changes : List Change) (o : Option NoticeRecord) → ((notice : NoticeRecord) → o ≡ Some notice → notice.page ≡ page) → is_some o ≡ true
    → is_none (option_and_then (λ (notice : NoticeRecord). notice.changes) (option_map (notice_with page changes) o)) ≡ false
now_known page changes None k s = cc
now_known page changes (Some notice) k s =
    let unknown : NoticeRecord → Bool = λ notice. is_none notice.changes in
    ap (λ b. unknown (if b then record { page = page; changes = Some changes } else notice)) (eq-eqb notice.page page (k notice refl))

pub known-here : (store : StoreRecord) (key : Key) (changes : List Change) → IsNoticed store key → IsKnown (attached store key changes) key
known-here store key changes n =
    ap (λ o. is_none (option_and_then (λ (notice : NoticeRecord). notice.changes) o)) (notice_at-here store key changes)
    ∙ now_known key.page changes (notice_at store key) (λ notice e. notice_page key.page (stored_at store.entries key.node key.index) notice e) n

-- what has changes has a notice
known_noticed : (o : Option NoticeRecord) → is_none (option_and_then (λ (notice : NoticeRecord). notice.changes) o) ≡ false → is_some o ≡ true
known_noticed None k = cc
known_noticed (Some notice) k = refl

-- ---- another key

same_key : (a b : Key) → a.node ≡ b.node → a.index ≡ b.index → a.page ≡ b.page → a ≡ b
same_key a b n i p =
    ap (λ k. record a { node = k }) n
    ∙ ap (λ k. record { node = b.node; index = k; page = a.page }) i
    ∙ ap (λ k. record b { page = k }) p

cases_key : (a b : Key) → (a ≡ b) ⊎ (a ≢ b)
cases_key a b = elim (cases_eq a.node b.node) [
  | inr other ↦ inr (λ e. other (ap (λ (k : Key). k.node) e))
  | inl n ↦ elim (cases_eq a.index b.index) [
    | inr other ↦ inr (λ e. other (ap (λ (k : Key). k.index) e))
    | inl i ↦ elim (cases_eq a.page b.page) [
      | inr other ↦ inr (λ e. other (ap (λ (k : Key). k.page) e))
      | inl p ↦ inl (same_key a b n i p)
    ]
  ]
]

pub changes_at-other : (store : StoreRecord) (key other : Key) (changes : List Change) → other ≢ key
    → changes_at (attached store key changes) other ≡ changes_at store other
changes_at-other store key other changes ne =
    ap (option_and_then (λ (notice : NoticeRecord). notice.changes)) (notice_at-attached_other store key other changes ne)

pub noticed-still : (store : StoreRecord) (key other : Key) (changes : List Change) → IsNoticed store other → IsNoticed (attached store key changes) other
noticed-still store key other changes n = elim (cases_key other key) [
  | inl same ↦
      subst (IsNoticed (attached store key changes)) (sym same)
      (ap is_some (notice_at-here store key changes) ∙ noticed_by key.page changes (notice_at store key) ∙ subst (IsNoticed store) same n)
  | inr ne ↦ ap is_some (notice_at-attached_other store key other changes ne) ∙ n
]

pub known-still : (store : StoreRecord) (key other : Key) (changes : List Change) → IsKnown store other → IsKnown (attached store key changes) other
known-still store key other changes k = elim (cases_key other key) [
  | inl same ↦
      subst (IsKnown (attached store key changes)) (sym same)
      (known-here store key changes (subst (IsNoticed store) same (known_noticed (notice_at store other) k)))
  | inr ne ↦ ap is_none (changes_at-other store key other changes ne) ∙ k
]

-- ---- a reply

pub parts-still : (from page : ℕ) (parts : List IndexedChangesRecord) (store : StoreRecord) (key : Key) → IsKnown store key
    → IsKnown (fold (with_part from page) store parts) key
parts-still from page [] store key k = k
parts-still from page (part ∷ parts) store key k =
    parts-still from page parts (with_part from page store part) key
    (known-still store (record { node = from; index = part.index; page = page }) key part.changes k)

pub parts-here : (from page : ℕ) (parts : List IndexedChangesRecord) (store : StoreRecord) (key : Key) → key.node ≡ from → key.page ≡ page
    → IsNoticed store key → Contains (map (λ (part : IndexedChangesRecord). part.index) parts) key.index
    → IsKnown (fold (with_part from page) store parts) key
parts-here from page [] store key n p s there = absurd (none_Contains key.index there)
parts-here from page (part ∷ parts) store key n p s there =
    let it : Key = record { node = from; index = part.index; page = page } in
    ⊎_elim
    (λ (here : part.index ≡ key.index).
    let same : it ≡ key = same_key it key (sym n) here (sym p) in
    parts-still from page parts (with_part from page store part) key
    (subst (IsKnown (with_part from page store part)) same (known-here store it part.changes (subst (IsNoticed store) (sym same) s))))
    (λ later. parts-here from page parts (with_part from page store part) key n p (noticed-still store it key part.changes s) later)
    (cases_Contains part.index (map (λ (part : IndexedChangesRecord). part.index) parts) key.index there)

pub parts-other : (from page : ℕ) (parts : List IndexedChangesRecord) (store : StoreRecord) (key : Key) → (key.node ≡ from → key.page ≡ page → ⊥)
    → changes_at (fold (with_part from page) store parts) key ≡ changes_at store key
parts-other from page [] store key ne = refl
parts-other from page (part ∷ parts) store key ne =
    let it : Key = record { node = from; index = part.index; page = page } in
    parts-other from page parts (with_part from page store part) key ne
    ∙ changes_at-other store it key part.changes (λ e. ne (ap (λ (k : Key). k.node) e) (ap (λ (k : Key). k.page) e))

-- ---- the notices of a page

AllPairs-head : {X : Type 0} (R : X → X → Type 0) (x : X) (xs : List X) → AllPairs R (x ∷ xs) → All (R x) xs
AllPairs-head R x xs h = λ k d within. h zero (suc k) d (omega arith) (omega (arith, within))

AllPairs-tail : {X : Type 0} (R : X → X → Type 0) (x : X) (xs : List X) → AllPairs R (x ∷ xs) → AllPairs R xs
AllPairs-tail R x xs h = λ i j d lt within. h (suc i) (suc j) d (omega (arith, lt)) (omega (arith, within))

-- a page that is named has a notice
named-noticed : (page : ℕ) (notices : List NoticeRecord) → list_any (λ named. named == page) (map (λ (notice : NoticeRecord). notice.page) notices) ≡ true
    → is_some (find (λ (notice : NoticeRecord). notice.page == page) notices) ≡ true
named-noticed page [] e = cc
named-noticed page (notice ∷ notices) e =
    let rest : Bool = list_any (λ named. named == page) (map (λ (notice : NoticeRecord). notice.page) notices) in
    cond_both (notice.page == page) (Some notice) (find (λ (notice : NoticeRecord). notice.page == page) notices) (λ o. is_some o ≡ true)
    (λ is. refl)
    (λ is. named-noticed page notices (sym (ap (λ b. b || rest) is) ∙ e))

abbrev Before : IntervalRecord → IntervalRecord → Type 0
Before a b = a.node ≡ b.node → index_of a < index_of b

found_by : (page : ℕ) (i : IntervalRecord) (entries : List StoredRecord) → AllPairs Before (map interval_of entries)
    → Contains (map interval_of entries) i → list_any (λ named. named == page) i.pages ≡ true
    → is_some (option_and_then (notice_of page) (stored_at entries i.node (index_of i))) ≡ true
found_by page i [] a there e = absurd (none_Contains i there)
found_by page i (stored ∷ entries) a there e =
    ⊎_elim
    (λ (here : interval_of stored ≡ i).
    let at : is_at i.node (index_of i) stored ≡ true =
    ap (λ (x : IntervalRecord). (x.node == i.node) && (index_of x == index_of i)) here
    ∙ and_from (i.node == i.node) (index_of i == index_of i) (eq-eqb i.node i.node refl) (eq-eqb (index_of i) (index_of i) refl) in
    ap (λ b. is_some (option_and_then (notice_of page) (if b then Some stored else stored_at entries i.node (index_of i)))) at
    ∙ named-noticed page stored.notices (ap (λ (x : IntervalRecord). list_any (λ named. named == page) x.pages) here ∙ e))
    (λ later.
    let apart : is_at i.node (index_of i) stored ≡ false =
    false_from_ne_true (is_at i.node (index_of i) stored) (λ at.
    let parts : ((stored.node == i.node) ≡ true) × ((index_of (interval_of stored) == index_of i) ≡ true) = and_parts _ _ at in
    let below : index_of (interval_of stored) < index_of i =
    All-contains (Before (interval_of stored)) (map interval_of entries) i (AllPairs-head Before (interval_of stored) (map interval_of entries) a) later
    (eqb-true stored.node i.node parts.0) in
    let same : index_of (interval_of stored) ≡ index_of i = eqb-true _ _ parts.1 in
    absurd (omega (arith, below, same))) in
    ap (λ b. is_some (option_and_then (notice_of page) (if b then Some stored else stored_at entries i.node (index_of i)))) apart
    ∙ found_by page i entries (AllPairs-tail Before (interval_of stored) (map interval_of entries) a) later e)
    (cases_Contains (interval_of stored) (map interval_of entries) i there)

-- what holds of the elements of a part in order
All-placed_in : {X : Type 0} (before : X → X → Bool) (P : X → Type 0) (x : X) (xs : List X) → P x → All P xs → All P (placed before x xs)
All-placed_in before P x [] p h = All-cons P x [] p h
All-placed_in before P x (y ∷ ys) p h =
    cond_both (before x y) (x ∷ y ∷ ys) (y ∷ placed before x ys) (All P)
    (λ e. All-cons P x (y ∷ ys) p h)
    (λ e. All-cons P y (placed before x ys) (All-head P y ys h) (All-placed_in before P x ys p (All-tail P y ys h)))

pub All-part : {X : Type 0} (before : X → X → Bool) (test : X → Bool) (P Q : X → Type 0) → ((x : X) → P x → test x ≡ true → Q x) → (xs : List X)
    → All P xs → All Q (ascending_part before test xs)
All-part before test P Q says [] h = All-nil Q
All-part before test P Q says (x ∷ xs) h =
    let rest : All Q (ascending_part before test xs) = All-part before test P Q says xs (All-tail P x xs h) in
    cond_both (test x) (placed before x (ascending_part before test xs)) (ascending_part before test xs) (All Q)
    (λ e. All-placed_in before Q x (ascending_part before test xs) (says x (All-head P x xs h) e) rest)
    (λ e. rest)

-- the keys that are missing are of the page, and have notices
pub missing-noticed : (store : StoreRecord) (page : ℕ) (since : List ℕ) → IsStore store
    → All (λ (key : Key). (key.page ≡ page) × IsNoticed store key) (missing_of store page since)
missing-noticed store page since s =
    All-map (λ (key : Key). (key.page ≡ page) × IsNoticed store key) (key_of page) (ascending_part by_weight (is_missing page since) (intervals_of store))
    (All-part by_weight (is_missing page since) (Contains (intervals_of store)) (λ i. (page ≡ page) × IsNoticed store (key_of page i))
    (λ i there e. (refl, found_by page i store.entries s.ascending there (and_parts _ _ e).0))
    (intervals_of store) (All-contains_itself (intervals_of store)))
