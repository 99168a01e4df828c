-- The changes that a node knows of what a copy lacks, applied in their order, bring the copy from one time to a later one.
use Rattle.std.proofs.Common.{◌≡◌, ℕ, ◌<◌, ◌≤◌, ◌↔◌, List, [], ◌∷◌, Bool, true, false, IsTrue, length, map, refl, sym, ap, subst, ◌∙◌, ⊎_elim, arith}
use Rattle.std.specs.Prelude.{Option, Some, None, is_some, is_none, unwrap_or, option_and_then, All, AllPairs}
use Rattle.std.specs.Prelude.{Contains, ◌==◌, ◌&&◌, ◌||◌, not, find, fold, slice_index_or, if◌then◌else◌}
use Rattle.std.specs.List.{list_any}
use Rattle.std.proofs.lemmas.Bool.{and_parts, not-true, leb-false}
use Rattle.std.proofs.lemmas.List.{get_or-map, length-map}
use Rattle.std.proofs.lemmas.List.Elements.{All-head, All-tail, All-contains_itself}
use Rattle.lrc_time.specs.Time.{entry, Covers}
use Rattle.lrc_page.specs.declared.changes.Change.{Change}
use Rattle.lrc_page.specs.Changes.{applied}
use Rattle.lrc_store.specs.declared.key.Key.{Key}
use Rattle.lrc_store.specs.Interval.{IntervalRecord, index_of, by_weight}
use Rattle.lrc_store.specs.Order.{IsAscendingPart, ascending_part}
use Rattle.lrc_store.specs.Store.{NoticeRecord, StoredRecord, StoreRecord, IsStore, interval_of, intervals_of, stored_at}
use Rattle.lrc_store.specs.Store.{notice_of, changes_at, without_changes, is_missing, key_of, missing_of}
use Rattle.lrc_store.proofs.Orders.{Contains-first, Contains-later, cases_Contains, none_Contains, IsAscendingPart-ascending_part}
use Rattle.lrc_store.proofs.Ranks.{IsStrictWeakOrder-by_weight, Comparable-by_weight}
use Rattle.lrc_copies.specs.Page.{PageFits, IsPageSound}
use Rattle.lrc_copies.specs.Stamps.{stamps_covered, covered, comes_before, page_of_stamps, IsCut, AreStamped, AreLacking}
use Rattle.lrc_copies.specs.Stamps.{stamp_index}
use Rattle.lrc_copies.proofs.Members.{Contains-filter, Contains-from_filter}
use Rattle.lrc_copies.proofs.Stamping.{covered-le, le-covered}
use Rattle.lrc_copies.proofs.Timing.{parts_lacking, repaired_fits}
use Rattle.lrc_protocol.specs.Pages.{changes_or_none, all_applied}
use Rattle.lrc_node_laws.proofs.Awaited.{All-unmap}
use Rattle.lrc_reading_laws.specs.Written.{made_stamps, changes_on, made_changes}

-- ---- lists

pub from_map : {X Y : Type 0} (f : X → Y) (xs : List X) (y : Y) → Contains (map f xs) y → (x : X) × Contains xs x × (f x ≡ y)
from_map f [] y c = absurd (none_Contains y c)
from_map f (x ∷ xs) y c =
    ⊎_elim
    (λ (here : f x ≡ y). (x, Contains-first x xs, here))
    (λ later. let rest : _ = from_map f xs y later in (rest.0, Contains-later x xs rest.0 rest.1, rest.2))
    (cases_Contains (f x) (map f xs) y c)

pub into_map : {X Y : Type 0} (f : X → Y) (xs : List X) (x : X) → Contains xs x → Contains (map f xs) (f x)
into_map f [] x c = absurd (none_Contains x c)
into_map f (y ∷ xs) x c =
    ⊎_elim
    (λ (here : y ≡ x). subst (λ z. Contains (f y ∷ map f xs) (f z)) here (Contains-first (f y) (map f xs)))
    (λ later. Contains-later (f y) (map f xs) (f x) (into_map f xs x later))
    (cases_Contains y xs x c)

-- lists that agree place by place
same_maps : {X Y : Type 0} (f g : X → Y) (xs : List X) → All (λ x. f x ≡ g x) xs → map f xs ≡ map g xs
same_maps f g [] h = refl
same_maps f g (x ∷ xs) h =
    ap (λ y. y ∷ map f xs) (All-head (λ x. f x ≡ g x) x xs h) ∙ ap (λ l. g x ∷ l) (same_maps f g xs (All-tail (λ x. f x ≡ g x) x xs h))

map_twice : {X Y Z : Type 0} (f : X → Y) (g : Y → Z) (xs : List X) → map g (map f xs) ≡ map (λ x. g (f x)) xs
map_twice f g [] = refl
map_twice f g (x ∷ xs) = ap (λ l. g (f x) ∷ l) (map_twice f g xs)

-- ---- which interval names a page

abbrev pub names : ℕ → StoredRecord → Bool
names page x = list_any (λ named. named == page) (interval_of x).pages

pub named_is : (page : ℕ) (notices : List NoticeRecord)
    → list_any (λ named. named == page) (map (λ (notice : NoticeRecord). notice.page) notices)
    ≡ is_some (find (λ (notice : NoticeRecord). notice.page == page) notices)
named_is page [] = refl
named_is page (n ∷ notices) = by_test (n.page == page) (named_is page notices)
  where
    by_test : (b : Bool)
        → list_any (λ named. named == page) (map (λ (notice : NoticeRecord). notice.page) notices)
        ≡ is_some (find (λ (notice : NoticeRecord). notice.page == page) notices)
        → (b || list_any (λ named. named == page) (map (λ (notice : NoticeRecord). notice.page) notices))
        ≡ is_some (if b then Some n else find (λ (notice : NoticeRecord). notice.page == page) notices)
    by_test true e = refl
    by_test false e = e

none_of : {X : Type 0} (o : Option X) → (is_some o ≡ true → ⊥) → o ≡ None
none_of None h = refl
none_of (Some x) h = absurd (h refl)

some_of : {X : Type 0} (o : Option X) → is_none o ≡ false → (x : X) × (o ≡ Some x)
some_of None h = cc
some_of (Some x) h = (x, refl)

pub unnamed : (page : ℕ) (x : StoredRecord) → (IsTrue (names page x) → ⊥) → notice_of page x ≡ None
unnamed page x h = none_of (notice_of page x) (λ s. h (named_is page x.notices ∙ s))

-- ---- what is missing, among all that were made

-- the interval with its changes
full : List StoredRecord → IntervalRecord → StoredRecord
full made i = unwrap_or (stored_at made i.node (index_of i)) (without_changes i)

module _ (made : List StoredRecord)
    (found : (x : StoredRecord) → Contains made x → stored_at made x.node (stamp_index made_stamps x) ≡ Some x) where
  full_is : (x : StoredRecord) → Contains made x → full made (interval_of x) ≡ x
  unfolding full
  full_is x c = ap (λ o. unwrap_or o (without_changes (interval_of x))) (found x c)

  -- what is made of an interval that was made
  record Made (i : IntervalRecord) : Type 0 where
    x : StoredRecord
    member : Contains made x
    interval_is : interval_of x ≡ i
    full_as : full made i ≡ x

  made_of : (i : IntervalRecord) → Contains (map interval_of made) i → Made i
  made_of i c =
      let it : _ = from_map interval_of made i c in
      record { x = it.0; member = it.1; interval_is = it.2; full_as = ap (full made) (sym it.2) ∙ full_is it.0 it.1 }

  module _ (page words : ℕ) (wrote : StoredRecord → ℕ → Option ℕ)
      (untouched : (x : StoredRecord) → Contains made x → notice_of page x ≡ None → (offset : ℕ) → offset < words → wrote x offset ≡ None)
      (store : StoreRecord) (collected time since : List ℕ) (is_store : IsStore store)
      (just : (i : IntervalRecord) → Contains (intervals_of store) i
      ↔ (Contains (map interval_of made) i × (entry collected i.node < index_of i) × (index_of i ≤ entry time i.node)))
      (above : Covers since collected)
      (known : (key : Key) (changes : List Change) → changes_at store key ≡ Some changes → made_changes made key ≡ Some changes)
      (all_known : All (λ key. is_none (changes_at store key) ≡ false) (missing_of store page since)) where
    abbrev intervals : List IntervalRecord
    intervals = ascending_part by_weight (is_missing page since) (intervals_of store)

    missing_is : IsAscendingPart by_weight (is_missing page since) (intervals_of store) intervals
    missing_is =
        IsAscendingPart-ascending_part by_weight IsStrictWeakOrder-by_weight (is_missing page since) (intervals_of store)
        (Comparable-by_weight store is_store)

    part : List StoredRecord
    part = map (full made) intervals

    -- each is made
    each_made : (i : IntervalRecord) → Contains intervals i → Made i
    each_made i c = made_of i ((just i).0 ((missing_is.exactly i).0 c).0).0

    member_of : (a : StoredRecord) → Contains part a → (i : IntervalRecord) × Contains intervals i × (interval_of a ≡ i) × Contains made a
    unfolding part
    member_of a c =
        let it : _ = from_map (full made) intervals a c in
        let m : Made it.0 = each_made it.0 it.1 in
        let same : m.x ≡ a = sym m.full_as ∙ it.2 in
        (it.0, it.1, ap interval_of (sym same) ∙ m.interval_is, subst (Contains made) same m.member)

    exactly : (a : StoredRecord)
        → Contains part a ↔ (Contains (covered made_stamps time made) a × IsTrue (names page a && not (stamps_covered made_stamps since a)))
    unfolding part
    exactly a = (
      λ c.
          let it : _ = member_of a c in
          let there : _ = (missing_is.exactly it.0).0 it.1 in
          let stored : _ = (just it.0).0 there.0 in
          let upto : index_of it.0 ≤ entry time it.0.node = stored.2 in (
            Contains-filter (stamps_covered made_stamps time) made a it.3
                (le-covered made_stamps time a (subst (λ (i : IntervalRecord). index_of i ≤ entry time i.node) (sym it.2) upto)),
            subst (λ (i : IntervalRecord). IsTrue (is_missing page since i)) (sym it.2) there.1,
          ),
      λ h.
          let i : IntervalRecord = interval_of a in
          let in_made : _ = Contains-from_filter (stamps_covered made_stamps time) made a h.0 in
          let tests : _ = and_parts (names page a) (not (stamps_covered made_stamps since a)) h.1 in
          let later : entry since a.node < index_of i =
          leb-false (index_of i) (entry since a.node) (not-true (stamps_covered made_stamps since a) tests.1) in
          let low : entry collected a.node ≤ entry since a.node = above a.node in
          let upto : index_of i ≤ entry time a.node = covered-le made_stamps time a in_made.1 in
          let there : Contains (intervals_of store) i = (just i).1 (into_map interval_of made a in_made.0, omega (arith, later, low), upto) in
          subst (Contains part) (full_is a in_made.0) (into_map (full made) intervals i ((missing_is.exactly i).1 (there, h.1))),
    )

    rises : AllPairs (λ a b. IsTrue (comes_before made_stamps a b)) part
    unfolding part
    rises i j d before within =
        let e : IntervalRecord = interval_of d in
        let lt_j : j < length intervals = omega (arith, within, length-map intervals (full made)) in
        let lt_i : i < length intervals = omega (arith, before, lt_j) in
        let first : IntervalRecord = slice_index_or intervals i e in
        let second : IntervalRecord = slice_index_or intervals j e in
        let m : Made first = each_made first (All-contains_itself intervals i e lt_i) in
        let n : Made second = each_made second (All-contains_itself intervals j e lt_j) in
        let is_first : slice_index_or part i d ≡ m.x = get_or-map (full made) intervals i e d lt_i ∙ m.full_as in
        let is_second : slice_index_or part j d ≡ n.x = get_or-map (full made) intervals j e d lt_j ∙ n.full_as in
        let in_order : IsTrue (by_weight first second) = missing_is.ascending i j e before lt_j in
        subst (λ b. IsTrue (comes_before made_stamps (slice_index_or part i d) b)) (sym is_second)
        (subst (λ a. IsTrue (comes_before made_stamps a n.x)) (sym is_first)
        (subst (λ i. IsTrue (by_weight i (interval_of n.x))) (sym m.interval_is)
        (subst (λ j. IsTrue (by_weight first j)) (sym n.interval_is) in_order)))

    lacks : AreLacking made_stamps wrote words made since time part
    lacks =
        parts_lacking made_stamps wrote (changes_on page) words made (covered made_stamps time made) since time (names page) part
        (λ a b. Contains-filter (stamps_covered made_stamps time) made a b.member b.known)
        (λ a c. Contains-from_filter (stamps_covered made_stamps time) made a c)
        (λ a c n. untouched a c (unnamed page a n))
        exactly rises

    -- what is known of each is what it changed
    change_is : (i : IntervalRecord) → Contains intervals i → is_none (changes_at store (key_of page i)) ≡ false
        → changes_on page (full made i) ≡ changes_or_none store (key_of page i)
    change_is i c k =
        let m : Made i = each_made i c in
        let some : _ = some_of (changes_at store (key_of page i)) k in
        let there : stored_at made i.node (index_of i) ≡ Some m.x =
        subst (λ (i : IntervalRecord). stored_at made i.node (index_of i) ≡ Some m.x) m.interval_is (found m.x m.member) in
        let was : made_changes made (key_of page i) ≡ Some some.0 = known (key_of page i) some.0 some.1 in
        let of_full : option_and_then (λ (notice : NoticeRecord). notice.changes) (notice_of page m.x) ≡ Some some.0 =
        ap (λ o. option_and_then (λ (notice : NoticeRecord). notice.changes) (option_and_then (notice_of page) o)) (sym there) ∙ was in
        ap (changes_on page) m.full_as
        ∙ ap (λ o. unwrap_or o []) of_full
        ∙ ap (λ o. unwrap_or o []) (sym some.1)

    changes_are : map (changes_on page) part ≡ map (changes_or_none store) (missing_of store page since)
    unfolding part
    changes_are =
        let each : All (λ (i : IntervalRecord). is_none (changes_at store (key_of page i)) ≡ false) intervals =
        All-unmap (λ (key : Key). is_none (changes_at store key) ≡ false) (key_of page) intervals all_known in
        map_twice (full made) (changes_on page) intervals
        ∙ same_maps (λ i. changes_on page (full made i)) (λ i. changes_or_none store (key_of page i)) intervals
        (λ k d within. change_is (slice_index_or intervals k d) (All-contains_itself intervals k d within) (each k d within))
        ∙ sym (map_twice (key_of page) (changes_or_none store) intervals)

    pub repair_fits : (nodes : ℕ) (values : List ℕ) → AreStamped made_stamps nodes made → length values ≡ words
        → IsPageSound (page_of_stamps made_stamps wrote (changes_on page)) words made
        → IsCut made_stamps made since → IsCut made_stamps made time → Covers time since
        → PageFits (page_of_stamps made_stamps wrote (changes_on page)) values (covered made_stamps since made)
        → PageFits (page_of_stamps made_stamps wrote (changes_on page)) (all_applied store values (missing_of store page since))
        (covered made_stamps time made)
    repair_fits nodes values stamped long sound since_cut time_cut up fits =
        subst
        (λ changes. PageFits (page_of_stamps made_stamps wrote (changes_on page)) (fold applied values changes) (covered made_stamps time made))
        changes_are
        (repaired_fits made_stamps wrote (changes_on page) made since time up nodes stamped since_cut time_cut words part lacks values (sym long)
        (subst (λ n. IsPageSound (page_of_stamps made_stamps wrote (changes_on page)) n made) (sym long) sound) fits)
