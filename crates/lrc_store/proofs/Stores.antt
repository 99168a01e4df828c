-- What `add` and `attach` leave true of a store.
use Rattle.std.proofs.Common.{◌≡◌, ℕ, ◌+◌, ◌<◌, ◌≤◌, ◌∙◌, Bool, true, false, not, cond, eqb, eqb-true, Some, List, []}
use Rattle.std.proofs.Common.{◌∷◌, ◌++◌, length, get_or, set, map, refl, ap, sym, subst, ⊎_elim, arith}
use Rattle.std.specs.List.{All, AllPairs, filter, position}
use Rattle.std.proofs.lemmas.Bool.{cases_lt, and_parts, false_from_ne_true}
use Rattle.std.proofs.lemmas.List.{get_or-map, get_or_default, length-map, length-set, map_push}
use Rattle.std.proofs.lemmas.List.Elements.{All-filter, All-push, All-weaker}
use Rattle.std.proofs.lemmas.List.Kept.{AllPairs-filter}
use Rattle.std.proofs.lemmas.List.Quantifiers.{all_pairs_push, position-Some}
use Rattle.lrc_time.specs.Time.{entry}
use Rattle.lrc_time.proofs.Times.{covers-raised, entry-set_same}
use Rattle.lrc_page.specs.declared.changes.Change.{Change}
use Rattle.lrc_store.specs.declared.key.Key.{Key}
use Rattle.lrc_store.specs.Interval.{IntervalRecord, IsInterval, index_of}
use Rattle.lrc_store.specs.Store.{NoticeRecord, StoredRecord, StoreRecord, IsStore, interval_of, intervals_of, without_changes}
use Rattle.lrc_store.specs.Store.{added, attached, discarded, is_covered, stored_with, notice_with, is_at}
use Rattle.lrc_store.proofs.Places.{map_one}
use Rattle.lrc_store.proofs.Records.{interval_of-without_changes}

-- the intervals after one more was added
pub intervals_of-added : (store : StoreRecord) (interval : IntervalRecord)
    → intervals_of (added store interval) ≡ intervals_of store ++ interval ∷ []
intervals_of-added store interval =
    map_push interval_of store.entries (without_changes interval)
    ∙ ap (λ (last : IntervalRecord). intervals_of store ++ last ∷ []) (interval_of-without_changes interval)

-- an interval that follows the last one of its node may be added
pub IsStore-added : (store : StoreRecord) (interval : IntervalRecord) → IsStore store → IsInterval interval
    → length interval.stamp ≡ length store.last → All (λ page. page < store.pages) interval.pages
    → index_of interval ≡ entry store.last interval.node + 1 → IsStore (added store interval)
IsStore-added store interval sound is stamp pages next =
    let all = intervals_of store in
    let node = interval.node in
    let index = index_of interval in
    let last = set store.last node index in
    let long : length last ≡ length store.last = length-set store.last node index in
    let above : (n : ℕ) → entry store.last n ≤ entry last n = covers-raised store.last node index (omega arith) in
    let here : entry last node ≡ index = entry-set_same store.last node index (omega (arith, is.counted)) in
    let same : intervals_of (added store interval) ≡ all ++ interval ∷ [] = intervals_of-added store interval in
    let IsLong : IntervalRecord → Type 0 = λ i. length i.stamp ≡ length last in
    let InRange : IntervalRecord → Type 0 = λ i. All (λ page. page < store.pages) i.pages in
    let IsCounted : IntervalRecord → Type 0 = λ i. index_of i ≤ entry last i.node in
    let Follows : IntervalRecord → IntervalRecord → Type 0 = λ a b. a.node ≡ b.node → index_of a < index_of b in
    let stamps : All IsLong (all ++ interval ∷ []) =
    All-push IsLong all interval
    (All-weaker (λ i. length i.stamp ≡ length store.last) IsLong (λ i h. h ∙ sym long) all sound.stamps)
    (stamp ∙ sym long) in
    let in_range : All InRange (all ++ interval ∷ []) = All-push InRange all interval sound.pages pages in
    let counted : All IsCounted (all ++ interval ∷ []) =
    All-push IsCounted all interval
    (All-weaker (λ i. index_of i ≤ entry store.last i.node) IsCounted (λ i h. omega (arith, above i.node)) all sound.counted)
    (omega arith) in
    let ascending : AllPairs Follows (all ++ interval ∷ []) =
    all_pairs_push Follows all interval sound.ascending
    (λ k d within node_same.
    let below = sound.counted k d within in
    let entries : entry store.last (get_or all k d).node ≡ entry store.last node = ap (entry store.last) node_same in
    omega arith) in
    record {
      stamps = subst (All IsLong) (sym same) stamps;
      pages = subst (All InRange) (sym same) in_range;
      counted = subst (All IsCounted) (sym same) counted;
      ascending = subst (AllPairs Follows) (sym same) ascending;
    }

-- ---- the changes of a key

-- changes leave a notice's page
pub kept_page : (page : ℕ) (changes : List Change) (notice : NoticeRecord)
    → (notice_with page changes notice).page ≡ notice.page
kept_page page changes notice = by_test (eqb notice.page page) refl
  where
    by_test : (b : Bool) → eqb notice.page page ≡ b
        → (cond b (record { page = page; changes = Some changes }) notice).page ≡ notice.page
    by_test true same = sym (eqb-true _ _ same)
    by_test false other = refl

kept_pages : (page : ℕ) (changes : List Change) (notices : List NoticeRecord)
    → map (λ notice. notice.page) (map (notice_with page changes) notices) ≡ map (λ notice. notice.page) notices
kept_pages page changes [] = refl
kept_pages page changes (notice ∷ notices) =
    let first = kept_page page changes notice in
    let rest = kept_pages page changes notices in
    cc

-- changes leave the interval
pub interval_of-stored_with : (key : Key) (changes : List Change) (stored : StoredRecord)
    → interval_of (stored_with key changes stored) ≡ interval_of stored
interval_of-stored_with key changes stored = by_test (is_at key.node key.index stored)
  where
    by_test : (b : Bool)
        → interval_of (cond b (record stored { notices = map (notice_with key.page changes) stored.notices }) stored)
        ≡ interval_of stored
    by_test true =
        ap (λ (pages : List ℕ). record { node = stored.node; stamp = stored.stamp; pages = pages })
        (kept_pages key.page changes stored.notices)
    by_test false = refl

intervals_of-changed : (key : Key) (changes : List Change) (entries : List StoredRecord)
    → map interval_of (map (stored_with key changes) entries) ≡ map interval_of entries
intervals_of-changed key changes [] = refl
intervals_of-changed key changes (stored ∷ entries) =
    let first = interval_of-stored_with key changes stored in
    let rest = intervals_of-changed key changes entries in
    cc

-- changes leave the intervals
pub intervals_of-attached : (store : StoreRecord) (key : Key) (changes : List Change)
    → intervals_of (attached store key changes) ≡ intervals_of store
intervals_of-attached store key changes = intervals_of-changed key changes store.entries

pub IsStore-attached : (store : StoreRecord) (key : Key) (changes : List Change) → IsStore store
    → IsStore (attached store key changes)
IsStore-attached store key changes sound =
    let same : intervals_of store ≡ intervals_of (attached store key changes) = sym (intervals_of-attached store key changes) in
    record {
      stamps = subst (All (λ i. length i.stamp ≡ length store.last)) same sound.stamps;
      pages = subst (All (λ i. All (λ page. page < store.pages) i.pages)) same sound.pages;
      counted = subst (All (λ i. index_of i ≤ entry store.last i.node)) same sound.counted;
      ascending = subst (AllPairs (λ a b. a.node ≡ b.node → index_of a < index_of b)) same sound.ascending;
    }

-- the intervals of some entries are some of the intervals
intervals_of-filter : (test : IntervalRecord → Bool) (entries : List StoredRecord)
    → map interval_of (filter (λ stored. test (interval_of stored)) entries) ≡ filter test (map interval_of entries)
intervals_of-filter test [] = refl
intervals_of-filter test (stored ∷ entries) =
    by_test (test (interval_of stored)) (intervals_of-filter test entries)
  where
    by_test : (b : Bool)
        → map interval_of (filter (λ stored. test (interval_of stored)) entries) ≡ filter test (map interval_of entries)
        → map interval_of (cond b (stored ∷ filter (λ stored. test (interval_of stored)) entries) (filter (λ stored. test (interval_of stored)) entries))
        ≡ cond b (interval_of stored ∷ filter test (map interval_of entries)) (filter test (map interval_of entries))
    by_test true rest = ap (λ (l : List IntervalRecord). interval_of stored ∷ l) rest
    by_test false rest = rest

-- the intervals that are left when those of a time are taken out
pub intervals_of-discarded : (store : StoreRecord) (time : List ℕ)
    → intervals_of (discarded store time) ≡ filter (λ interval. not (is_covered time interval)) (intervals_of store)
intervals_of-discarded store time = intervals_of-filter (λ interval. not (is_covered time interval)) store.entries

-- a store from which intervals are taken out is a store
pub IsStore-discarded : (store : StoreRecord) (time : List ℕ) → IsStore store → IsStore (discarded store time)
IsStore-discarded store time sound =
    let kept = λ (interval : IntervalRecord). not (is_covered time interval) in
    let same = sym (intervals_of-discarded store time) in
    record {
      stamps = subst (All (λ i. length i.stamp ≡ length store.last)) same
          (All-filter kept (λ i. length i.stamp ≡ length store.last) (intervals_of store) sound.stamps);
      pages = subst (All (λ i. All (λ page. page < store.pages) i.pages)) same
          (All-filter kept (λ i. All (λ page. page < store.pages) i.pages) (intervals_of store) sound.pages);
      counted = subst (All (λ i. index_of i ≤ entry store.last i.node)) same
          (All-filter kept (λ i. index_of i ≤ entry store.last i.node) (intervals_of store) sound.counted);
      ascending = subst (AllPairs (λ a b. a.node ≡ b.node → index_of a < index_of b)) same
          (AllPairs-filter (λ a b. a.node ≡ b.node → index_of a < index_of b) kept (intervals_of store) sound.ascending);
    }

-- no node and index are in the store twice
pub once : (entries : List StoredRecord)
    → AllPairs (λ a b. a.node ≡ b.node → index_of a < index_of b) (map interval_of entries)
    → (node index : ℕ) (i j : ℕ) (d : StoredRecord) → i < length entries → j < length entries
    → is_at node index (get_or entries i d) ≡ true → is_at node index (get_or entries j d) ≡ true → i ≡ j
once entries ascending node index i j d i_in j_in at_i at_j =
    let all = map interval_of entries in
    let long : length all ≡ length entries = length-map entries interval_of in
    let first : get_or all i (interval_of d) ≡ interval_of (get_or entries i d) = get_or-map interval_of entries i d (interval_of d) i_in in
    let second : get_or all j (interval_of d) ≡ interval_of (get_or entries j d) = get_or-map interval_of entries j d (interval_of d) j_in in
    let i_parts = and_parts (eqb (get_or entries i d).node node) _ at_i in
    let j_parts = and_parts (eqb (get_or entries j d).node node) _ at_j in
    let i_node : (get_or entries i d).node ≡ node = eqb-true _ _ i_parts.0 in
    let j_node : (get_or entries j d).node ≡ node = eqb-true _ _ j_parts.0 in
    let i_index : index_of (interval_of (get_or entries i d)) ≡ index = eqb-true _ _ i_parts.1 in
    let j_index : index_of (interval_of (get_or entries j d)) ≡ index = eqb-true _ _ j_parts.1 in
    let nodes : (get_or all i (interval_of d)).node ≡ (get_or all j (interval_of d)).node = cc in
    let i_at : index_of (get_or all i (interval_of d)) ≡ index = ap index_of first ∙ i_index in
    let j_at : index_of (get_or all j (interval_of d)) ≡ index = ap index_of second ∙ j_index in
    ⊎_elim
    (λ (less : i < j).
    let below = ascending i j (interval_of d) less (omega arith) nodes in
    absurd (omega arith))
    (λ at_most. ⊎_elim
    (λ (more : j < i).
    let below = ascending j i (interval_of d) more (omega arith) (sym nodes) in
    absurd (omega arith))
    (λ (same : i ≤ j). omega arith)
    (cases_lt j i))
    (cases_lt i j)

-- an interval without the key gets no changes
pub stored_with-other : (key : Key) (changes : List Change) (stored : StoredRecord)
    → is_at key.node key.index stored ≡ false → stored_with key changes stored ≡ stored
stored_with-other key changes stored other =
    ap (λ b. cond b (record stored { notices = map (notice_with key.page changes) stored.notices }) stored) other

-- the interval at a place gets changes
pub map-stored_with : (entries : List StoredRecord) (key : Key) (changes : List Change) (place : ℕ)
    → AllPairs (λ a b. a.node ≡ b.node → index_of a < index_of b) (map interval_of entries)
    → position (is_at key.node key.index) entries ≡ Some place → (old : StoredRecord) → old ≡ get_or entries place old
    → map (stored_with key changes) entries
    ≡ set entries place (record old { notices = map (notice_with key.page changes) old.notices })
map-stored_with entries key changes place ascending found old read =
    let passed = position-Some _ entries place old found in
    map_one (stored_with key changes) entries place _
    (λ d within.
    let same : get_or entries place d ≡ old = get_or_default entries place d old within ∙ sym read in
    let at : is_at key.node key.index old ≡ true = ap (is_at key.node key.index) read ∙ passed.1 in
    ap (stored_with key changes) same
    ∙ ap (λ b. cond b (record old { notices = map (notice_with key.page changes) old.notices }) old) at)
    (λ k d within differ.
    let other : is_at key.node key.index (get_or entries k d) ≡ false =
    false_from_ne_true _ (λ at. differ
    (once entries ascending key.node key.index k place d within passed.0 at (position-Some _ entries place d found).1)) in
    stored_with-other key changes (get_or entries k d) other)
