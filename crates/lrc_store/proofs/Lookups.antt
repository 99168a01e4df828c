-- What is found in a store after `add` and `attach`.
use Rattle.std.proofs.Common.{◌≡◌, ◌≢◌, ℕ, suc, ◌+◌, ◌≤◌, ◌∙◌, Bool, true, false, cond, eqb, eqb-true, ◌&&◌, Option, Some}
use Rattle.std.proofs.Common.{None, List, [], ◌∷◌, ◌++◌, get_or, map, refl, ap, sym, ⊎_elim, arith}
use Rattle.std.specs.List.{All, Contains, find}
use Rattle.std.specs.Option.{option_and_then, option_map}
use Rattle.std.proofs.lemmas.Bool.{true≢false, and_parts, and_from, false_from_ne_true, eq-eqb, ne_eqb}
use Rattle.std.proofs.lemmas.List.{get_or-map, length-map}
use Rattle.lrc_time.specs.Time.{entry}
use Rattle.lrc_page.specs.declared.changes.Change.{Change}
use Rattle.lrc_store.specs.declared.key.Key.{Key}
use Rattle.lrc_store.specs.Interval.{IntervalRecord, index_of}
use Rattle.lrc_store.specs.Store.{NoticeRecord, StoredRecord, StoreRecord, IsStore, interval_of, intervals_of, without_changes, added}
use Rattle.lrc_store.specs.Store.{attached, stored_with, notice_with, is_at, stored_at, key_of, notice_of, notice_at, unread}
use Rattle.lrc_store.proofs.Orders.{cases_Contains, none_Contains}
use Rattle.lrc_store.proofs.Records.{notice_with-same, notice_with-other}
use Rattle.lrc_store.proofs.Stores.{interval_of-stored_with, kept_page, stored_with-other}

-- ---- finding

module _ {X : Type 0} (p : X → Bool) where
  pub find-push_other : (xs : List X) (y : X) → p y ≡ false → find p (xs ++ y ∷ []) ≡ find p xs
  find-push_other [] y fails = ap (λ b. cond b (Some y) None) fails
  find-push_other (x ∷ xs) y fails = ap (λ found. cond (p x) (Some x) found) (find-push_other xs y fails)

  pub find-push_here : (xs : List X) (y : X) → All (λ x. p x ≡ false) xs → p y ≡ true → find p (xs ++ y ∷ []) ≡ Some y
  find-push_here [] y fail passes = ap (λ b. cond b (Some y) None) passes
  find-push_here (x ∷ xs) y fail passes =
      ap (λ b. cond b (Some x) (find p (xs ++ y ∷ []))) (fail 0 x (omega arith))
      ∙ find-push_here xs y (λ k d within. fail (suc k) d (omega arith)) passes

  -- an element that a function changes is found where the test sees no difference
  pub find-map : (f : X → X) (xs : List X) → ((x : X) → p (f x) ≡ p x) → find p (map f xs) ≡ option_map f (find p xs)
  find-map f [] same = refl
  find-map f (x ∷ xs) same =
      ap (λ b. cond b (Some (f x)) (find p (map f xs))) (same x)
      ∙ ap (λ found. cond (p x) (Some (f x)) found) (find-map f xs same)
      ∙ either (p x)
    where
      either : (b : Bool) → cond b (Some (f x)) (option_map f (find p xs)) ≡ option_map f (cond b (Some x) (find p xs))
      either true = refl
      either false = refl

  pub passes-find : (xs : List X) (x : X) → find p xs ≡ Some x → p x ≡ true
  passes-find [] x found = absurd (cc)
  passes-find (y ∷ ys) x found = by_test (passes-find ys x) (p y) refl found
    where
      by_test : (find p ys ≡ Some x → p x ≡ true) → (b : Bool) → p y ≡ b → cond b (Some y) (find p ys) ≡ Some x
          → p x ≡ true
      by_test rest true passes found = let same : y ≡ x = cc in ap p (sym same) ∙ passes
      by_test rest false fails found = rest found

-- ---- after `add`

-- an interval is at its own node and index, and at no other
is_at-itself : (interval : IntervalRecord) → is_at interval.node (index_of interval) (without_changes interval) ≡ true
is_at-itself interval = and_from _ _ (eq-eqb interval.node interval.node refl) (eq-eqb (index_of interval) (index_of interval) refl)

is_at-other : (interval : IntervalRecord) (node index : ℕ) → ¬ ((node ≡ interval.node) × (index ≡ index_of interval))
    → is_at node index (without_changes interval) ≡ false
is_at-other interval node index differ =
    false_from_ne_true _ (λ at.
    let parts = and_parts (eqb interval.node node) _ at in
    differ (sym (eqb-true _ _ parts.0), sym (eqb-true _ _ parts.1)))

pub stored_at-added : (store : StoreRecord) (interval : IntervalRecord) → IsStore store
    → index_of interval ≡ entry store.last interval.node + 1
    → stored_at (added store interval).entries interval.node (index_of interval) ≡ Some (without_changes interval)
stored_at-added store interval sound next =
    find-push_here (is_at interval.node (index_of interval)) store.entries (without_changes interval)
    (λ k d within.
    false_from_ne_true _ (λ at.
    let there = get_or store.entries k d in
    let parts = and_parts (eqb there.node interval.node) _ at in
    let all = intervals_of store in
    let read : get_or all k (interval_of d) ≡ interval_of there = get_or-map interval_of store.entries k d (interval_of d) within in
    let below : index_of (get_or all k (interval_of d)) ≤ entry store.last (get_or all k (interval_of d)).node =
    sound.counted k (interval_of d) (omega (arith, length-map store.entries interval_of)) in
    let node : (get_or all k (interval_of d)).node ≡ interval.node = ap (λ (i : IntervalRecord). i.node) read ∙ eqb-true _ _ parts.0 in
    let index : index_of (get_or all k (interval_of d)) ≡ index_of interval = ap index_of read ∙ eqb-true _ _ parts.1 in
    let last : entry store.last (get_or all k (interval_of d)).node ≡ entry store.last interval.node = ap (entry store.last) node in
    absurd (omega arith)))
    (is_at-itself interval)

-- each page of an interval gets a notice
pub notice_of-unread : (pages : List ℕ) (page : ℕ) → Contains pages page
    → find (λ notice. eqb notice.page page) (map unread pages) ≡ Some (unread page)
notice_of-unread [] page there = absurd (none_Contains page there)
notice_of-unread (first ∷ pages) page there = by_test (notice_of-unread pages page) (eqb first page) refl
  where
    by_test : (Contains pages page → find (λ notice. eqb notice.page page) (map unread pages) ≡ Some (unread page))
        → (b : Bool) → eqb first page ≡ b
        → cond b (Some (unread first)) (find (λ notice. eqb notice.page page) (map unread pages)) ≡ Some (unread page)
    by_test rest true same = ap (λ p. Some (unread p)) (eqb-true first page same)
    by_test rest false differ =
        ⊎_elim
        (λ (same : first ≡ page). absurd (true≢false (sym (eq-eqb first page same) ∙ differ)))
        rest
        (cases_Contains first pages page there)

pub notice_at-added : (store : StoreRecord) (interval : IntervalRecord) (page : ℕ) → IsStore store
    → index_of interval ≡ entry store.last interval.node + 1 → Contains interval.pages page
    → notice_at (added store interval) (key_of page interval) ≡ Some (unread page)
notice_at-added store interval page sound next named =
    ap (option_and_then (notice_of page)) (stored_at-added store interval sound next) ∙ notice_of-unread interval.pages page named

pub stored_at-added_other : (store : StoreRecord) (interval : IntervalRecord) (node index : ℕ)
    → ¬ ((node ≡ interval.node) × (index ≡ index_of interval))
    → stored_at (added store interval).entries node index ≡ stored_at store.entries node index
stored_at-added_other store interval node index differ =
    find-push_other (is_at node index) store.entries (without_changes interval) (is_at-other interval node index differ)

-- ---- after `attach`

is_at-stored_with : (key : Key) (changes : List Change) (node index : ℕ) (stored : StoredRecord)
    → is_at node index (stored_with key changes stored) ≡ is_at node index stored
is_at-stored_with key changes node index stored =
    ap (λ (i : IntervalRecord). eqb i.node node && eqb (index_of i) index) (interval_of-stored_with key changes stored)

stored_at-attached : (store : StoreRecord) (key : Key) (changes : List Change) (node index : ℕ)
    → stored_at (attached store key changes).entries node index ≡ option_map (stored_with key changes) (stored_at store.entries node index)
stored_at-attached store key changes node index =
    find-map (is_at node index) (stored_with key changes) store.entries (is_at-stored_with key changes node index)

-- the notice of a page of an interval that has the key
notice_of-stored_with : (key : Key) (changes : List Change) (page : ℕ) (stored : StoredRecord)
    → is_at key.node key.index stored ≡ true
    → notice_of page (stored_with key changes stored) ≡ option_map (notice_with key.page changes) (notice_of page stored)
notice_of-stored_with key changes page stored at =
    ap (λ b. notice_of page (cond b (record stored { notices = map (notice_with key.page changes) stored.notices }) stored)) at
    ∙ find-map (λ notice. eqb notice.page page) (notice_with key.page changes) stored.notices
    (λ notice. ap (λ p. eqb p page) (kept_page key.page changes notice))

pub notice_at-attached : (store : StoreRecord) (key : Key) (changes : List Change)
    → notice_at store key ≡ Some (record { page = key.page; changes = None })
    → notice_at (attached store key changes) key ≡ Some (record { page = key.page; changes = Some changes })
notice_at-attached store key changes wanted =
    ap (option_and_then (notice_of key.page)) (stored_at-attached store key changes key.node key.index)
    ∙ by_found (stored_at store.entries key.node key.index) refl
  where
    by_found : (found : Option StoredRecord) → stored_at store.entries key.node key.index ≡ found
        → option_and_then (notice_of key.page) (option_map (stored_with key changes) found)
        ≡ Some (record { page = key.page; changes = Some changes })
    by_found None none =
        let nothing : option_and_then (notice_of key.page) (stored_at store.entries key.node key.index) ≡ None =
        ap (option_and_then (notice_of key.page)) none in
        absurd (cc)
    by_found (Some stored) some =
        let at : is_at key.node key.index stored ≡ true = passes-find (is_at key.node key.index) store.entries stored some in
        let notice : notice_of key.page stored ≡ Some (record { page = key.page; changes = None }) =
        sym (ap (option_and_then (notice_of key.page)) some) ∙ wanted in
        notice_of-stored_with key changes key.page stored at
        ∙ ap (option_map (notice_with key.page changes)) notice
        ∙ ap Some (notice_with-same key.page changes (record { page = key.page; changes = None }) (eq-eqb key.page key.page refl))

-- the notice of another page of the same interval stays
kept_notice : (page : ℕ) (changes : List Change) (other : ℕ) (notices : List NoticeRecord) → other ≢ page
    → (found : Option NoticeRecord) → find (λ notice. eqb notice.page other) notices ≡ found
    → option_map (notice_with page changes) found ≡ found
kept_notice page changes other notices differ None none = refl
kept_notice page changes other notices differ (Some notice) some =
    let there : notice.page ≡ other = eqb-true _ _ (passes-find (λ notice. eqb notice.page other) notices notice some) in
    ap Some (notice_with-other page changes notice (ne_eqb notice.page page (λ same. differ (sym there ∙ same))))

pub notice_at-attached_other : (store : StoreRecord) (key other : Key) (changes : List Change) → other ≢ key
    → notice_at (attached store key changes) other ≡ notice_at store other
notice_at-attached_other store key other changes differ =
    ap (option_and_then (notice_of other.page)) (stored_at-attached store key changes other.node other.index)
    ∙ by_found (stored_at store.entries other.node other.index) refl
  where
    same_interval : (stored : StoredRecord) → is_at other.node other.index stored ≡ true
        → is_at key.node key.index stored ≡ true
        → other.page ≢ key.page
    same_interval stored at_other at_key page =
        let others = and_parts (eqb stored.node other.node) _ at_other in
        let keys = and_parts (eqb stored.node key.node) _ at_key in
        let node : other.node ≡ key.node = sym (eqb-true _ _ others.0) ∙ eqb-true _ _ keys.0 in
        let index : other.index ≡ key.index = sym (eqb-true _ _ others.1) ∙ eqb-true _ _ keys.1 in
        differ
        (ap (λ n. record other { node = n }) node
        ∙ ap (λ n. record { node = key.node; index = n; page = other.page }) index
        ∙ ap (λ n. record key { page = n }) page)

    by_test : (stored : StoredRecord) → is_at other.node other.index stored ≡ true → (b : Bool)
        → is_at key.node key.index stored ≡ b
        → notice_of other.page (stored_with key changes stored) ≡ notice_of other.page stored
    by_test stored at_other true at_key =
        notice_of-stored_with key changes other.page stored at_key
        ∙ kept_notice key.page changes other.page stored.notices (same_interval stored at_other at_key) (notice_of other.page stored) refl
    by_test stored at_other false not_key = ap (notice_of other.page) (stored_with-other key changes stored not_key)

    by_found : (found : Option StoredRecord) → stored_at store.entries other.node other.index ≡ found
        → option_and_then (notice_of other.page) (option_map (stored_with key changes) found)
        ≡ option_and_then (notice_of other.page) (stored_at store.entries other.node other.index)
    by_found None none = sym (ap (option_and_then (notice_of other.page)) none)
    by_found (Some stored) some =
        let at : is_at other.node other.index stored ≡ true = passes-find (is_at other.node other.index) store.entries stored some in
        by_test stored at (is_at key.node key.index stored) refl ∙ sym (ap (option_and_then (notice_of other.page)) some)
