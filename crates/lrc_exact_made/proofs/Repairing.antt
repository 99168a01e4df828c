-- What a page lacks, applied in its order, makes of the page what the exact memory has of it.
use Rattle.std.proofs.Common.{◌≡◌, ℕ, ◌<◌, ◌≤◌, List, [], ◌∷◌, true, false, length, map, inl, inr, refl, sym, ap, subst, ◌∙◌, arith}
use Rattle.std.specs.Prelude.{IsTrue, ◌==◌, nat_le, Option, Some, None, is_none, unwrap_or, option_and_then, not, fold, slice_index, All, AllPairs, Contains}
use Rattle.std.specs.List.{list_any}
use Rattle.std.proofs.lemmas.Bool.{true≢false, and_parts, and_from, leb-true, le-leb, both_ways, false_from_ne_true, cases_Bool, cases_lt, not-true}
use Rattle.std.proofs.lemmas.Option.{same_Some}
use Rattle.std.proofs.lemmas.List.Elements.{All-contains}
use Rattle.lrc_time.specs.Time.{entry, knows, weight_of}
use Rattle.lrc_page.specs.declared.changes.Change.{Change}
use Rattle.lrc_page.specs.Changes.{change_at, applied}
use Rattle.lrc_page.proofs.ChangeLists.{length-applied, get_or-applied}
use Rattle.lrc_store.specs.declared.key.Key.{Key}
use Rattle.lrc_store.specs.Interval.{IntervalRecord, index_of, by_weight}
use Rattle.lrc_store.specs.Order.{IsAscendingPart, ascending_part}
use Rattle.lrc_store.specs.Store.{NoticeRecord, StoredRecord, StoreRecord, interval_of, intervals_of, notice_of, changes_at, is_missing, key_of}
use Rattle.lrc_store.specs.Store.{missing_of}
use Rattle.lrc_store.proofs.Orders.{IsAscendingPart-ascending_part}
use Rattle.lrc_store.proofs.Ranks.{IsStrictWeakOrder-by_weight, Comparable-by_weight}
use Rattle.lrc_copies.specs.Stamps.{stamp_index}
use Rattle.lrc_copies.proofs.Members.{Contains-first, Contains-later, cases_Contains, none_Contains, AllPairs-first, AllPairs-rest}
use Rattle.lrc_protocol.specs.Pages.{changes_or_none, all_applied}
use Rattle.lrc_node_laws.proofs.Awaited.{All-unmap}
use Rattle.lrc_reading_laws.specs.Written.{made_stamps, changes_on, made_changes}
use Rattle.lrc_reading_laws.proofs.Fitting.Repair.{unnamed}
use Rattle.lrc_reading_laws.proofs.Stamped.Lists.{HasRecord, interval-in, interval-from}
use Rattle.lrc_exact.specs.Memory.{Rank, Word, is_lower}
use Rattle.lrc_exact_known.specs.Learned.{TakesHighest, unchanged, taken}
use Rattle.lrc_exact_made.specs.Copies.{IsChangeBetween, unmarked}
use Rattle.lrc_exact_made.specs.Steps.{KnowsMissing}
use Rattle.lrc_exact_made.proofs.Ranks.{same_rank, neither_lower, rank_of, later_not_lower}

-- ---- changes that are applied one after another

-- What becomes of a word: none of them changes it; or one does, and none of a higher rank.
data Becomes (changes : IntervalRecord → List Change) (items : List IntervalRecord) (offset was out : ℕ) : Type 0 where
  left : out ≡ was → ((i : IntervalRecord) → Contains items i → change_at (changes i) offset ≡ None) → Becomes changes items offset was out
  changed : (i : IntervalRecord) → Contains items i → change_at (changes i) offset ≡ Some out
      → ((k : IntervalRecord) (value : ℕ) → Contains items k → change_at (changes k) offset ≡ Some value → is_lower (rank_of i) (rank_of k) ≡ false)
      → Becomes changes items offset was out

module _ (changes : IntervalRecord → List Change) (offset : ℕ) where
  abbrev Rising : List IntervalRecord → Type 0
  Rising items = AllPairs (λ a b. IsTrue (by_weight a b)) items

  no_some : (o : Option ℕ) (value : ℕ) → o ≡ None → o ≡ Some value → ⊥
  no_some o value none some = cc

  -- one interval before the others
  one_more : (i : IntervalRecord) (items : List IntervalRecord) (values : List ℕ) (out : ℕ) → offset < length values → Rising (i ∷ items)
      → (o : Option ℕ) → change_at (changes i) offset ≡ o → Becomes changes items offset (slice_index (applied values (changes i)) offset) out
      → Becomes changes (i ∷ items) offset (slice_index values offset) out
  one_more i items values out lt rising o e (changed j c some least) =
      changed j (Contains-later i items j c) some (λ k value d is.
      elim (cases_Contains i items k d) [
        | inl here ↦
            subst (λ k. is_lower (rank_of j) (rank_of k) ≡ false) here
            (later_not_lower i j (AllPairs-first (λ a b. IsTrue (by_weight a b)) i items j rising c))
        | inr later ↦ least k value later is
      ])
  one_more i items values out lt rising None e (left is none) =
      left (is ∙ get_or-applied values (changes i) offset lt ∙ ap (λ o. unwrap_or o (slice_index values offset)) e) (λ k d.
      elim (cases_Contains i items k d) [
        | inl here ↦ subst (λ k. change_at (changes k) offset ≡ None) here e
        | inr later ↦ none k later
      ])
  one_more i items values out lt rising (Some v) e (left is none) =
      let last : out ≡ v = is ∙ get_or-applied values (changes i) offset lt ∙ ap (λ o. unwrap_or o (slice_index values offset)) e in
      changed i (Contains-first i items) (e ∙ ap (λ v. Some v) (sym last)) (λ k value d some.
      elim (cases_Contains i items k d) [
        | inl here ↦ subst (λ k. is_lower (rank_of i) (rank_of k) ≡ false) here (same_rank (rank_of i))
        | inr later ↦ absurd (no_some (change_at (changes k) offset) value (none k later) some)
      ])

  becomes : (items : List IntervalRecord) (values : List ℕ) → offset < length values → Rising items
      → Becomes changes items offset (slice_index values offset) (slice_index (fold applied values (map changes items)) offset)
  becomes [] values lt rising = left refl (λ i c. absurd (none_Contains i c))
  becomes (i ∷ items) values lt rising =
      one_more i items values (slice_index (fold applied (applied values (changes i)) (map changes items)) offset) lt rising
      (change_at (changes i) offset) refl
      (becomes items (applied values (changes i)) (subst (λ n. offset < n) (sym (length-applied values (changes i))) lt)
      (AllPairs-rest (λ a b. IsTrue (by_weight a b)) i items rising))

-- ---- the intervals that a page lacks

map_twice : {X Y Z : Type 0} (f : X → Y) (g : Y → Z) (xs : List X) → map g (map f xs) ≡ map (λ x. g (f x)) xs
map_twice f g [] = refl
map_twice f g (x ∷ xs) = ap (λ l. g (f x) ∷ l) (map_twice f g xs)

module _ (made : List StoredRecord) (page : ℕ) (collected since time : List ℕ) (store : StoreRecord)
    (k : KnowsMissing made page collected since time store) where
  abbrev intervals : List IntervalRecord
  intervals = ascending_part by_weight (is_missing page since) (intervals_of store)

  abbrev known_of : IntervalRecord → List Change
  known_of i = changes_or_none store (key_of page i)

  missing_is : IsAscendingPart by_weight (is_missing page since) (intervals_of store) intervals
  missing_is =
      IsAscendingPart-ascending_part by_weight IsStrictWeakOrder-by_weight (is_missing page since) (intervals_of store)
      (Comparable-by_weight store k.is_store)

  -- an interval that is missing was made, and what is known of it is what it changed
  record Lacked (i : IntervalRecord) : Type 0 where
    interval : StoredRecord
    member : Contains made interval
    is : interval_of interval ≡ i
    later : entry since interval.node < stamp_index made_stamps interval
    upto : stamp_index made_stamps interval ≤ entry time interval.node
    changes : changes_on page interval ≡ known_of i

  some_of : {X : Type 0} (o : Option X) → is_none o ≡ false → (x : X) × (o ≡ Some x)
  some_of None h = absurd (true≢false h)
  some_of (Some x) h = (x, refl)

  changes_are : (x : StoredRecord) → Contains made x → is_none (changes_at store (key_of page (interval_of x))) ≡ false
      → changes_on page x ≡ known_of (interval_of x)
  changes_are x c there =
      let key : Key = key_of page (interval_of x) in
      let some = some_of (changes_at store key) there in
      let was : made_changes made key ≡ Some some.0 = k.known key some.0 some.1 in
      let of_x : option_and_then (λ (notice : NoticeRecord). notice.changes) (notice_of page x) ≡ Some some.0 =
      ap (λ o. option_and_then (λ (notice : NoticeRecord). notice.changes) (option_and_then (notice_of page) o)) (sym (k.found x c)) ∙ was in
      ap (λ o. unwrap_or o []) of_x ∙ ap (λ o. unwrap_or o []) (sym some.1)

  over_since : (q index : ℕ) → knows since q index ≡ false → entry since q < index
  over_since q index e = leb-less index (entry since q) e
    where
      leb-less : (a b : ℕ) → nat_le a b ≡ false → b < a
      leb-less a b e =
          elim (cases_lt b a) [ inl less ↦ less | inr most ↦ absurd (both_ways (nat_le a b) e (le-leb a b most)) ]

  lacked : (i : IntervalRecord) → Contains intervals i → Lacked i
  lacked i c =
      let there = (missing_is.exactly i).0 c in
      let stored = (k.just i).0 there.0 in
      let r : HasRecord made i = interval-from made i stored.0 in
      let tests = and_parts (list_any (λ named. named == page) i.pages) (not (knows since i.node (index_of i))) there.1 in
      let each : All (λ (i : IntervalRecord). is_none (changes_at store (key_of page i)) ≡ false) intervals =
      All-unmap (λ (key : Key). is_none (changes_at store key) ≡ false) (key_of page) intervals k.all_known in
      let come = All-contains (λ (i : IntervalRecord). is_none (changes_at store (key_of page i)) ≡ false) intervals i each c in
      record {
        interval = r.x;
        member = r.in_list;
        is = r.is;
        later = subst (λ (i : IntervalRecord). entry since i.node < index_of i) (sym r.is)
            (over_since i.node (index_of i) (not-true (knows since i.node (index_of i)) tests.1));
        upto = subst (λ (i : IntervalRecord). index_of i ≤ entry time i.node) (sym r.is) stored.2;
        changes = changes_are r.x r.in_list (subst (λ (i : IntervalRecord). is_none (changes_at store (key_of page i)) ≡ false) (sym r.is) come)
            ∙ ap known_of r.is;
      }

  no_changes : (x : StoredRecord) (offset value : ℕ) → notice_of page x ≡ None → change_at (changes_on page x) offset ≡ Some value → ⊥
  no_changes x offset value none some =
      bad value (sym (ap (λ o. change_at (unwrap_or (option_and_then (λ (notice : NoticeRecord). notice.changes) o) []) offset) none) ∙ some)
    where
      bad : (value : ℕ) → None ≡ Some value → ⊥
      bad value e = cc

  -- an interval that changed a word of the page since is missing
  is_lacked : (rank : Rank) (offset value : ℕ) (b : IsChangeBetween made page offset since time rank value) → Contains intervals (interval_of b.interval)
  is_lacked rank offset value b =
      let i : IntervalRecord = interval_of b.interval in
      let later = b.later in
      let low = k.above b.interval.node in
      let over : entry collected i.node < index_of i = omega arith in
      let there : Contains (intervals_of store) i = (k.just i).1 (interval-in made b.interval b.member, over, b.known) in
      let names : list_any (λ named. named == page) i.pages ≡ true =
      elim (cases_Bool (list_any (λ named. named == page) i.pages)) [
        | inl there ↦ there
        | inr none ↦
            absurd (no_changes b.interval offset value (unnamed page b.interval (λ some. both_ways (list_any (λ named. named == page) i.pages) none some)) b.changed)
      ] in
      let new : not (knows since i.node (index_of i)) ≡ true =
      ap not (false_from_ne_true (knows since i.node (index_of i)) (λ e. let le = leb-true (index_of i) (entry since i.node) e in omega arith)) in
      (missing_is.exactly i).1 (there, and_from (list_any (λ named. named == page) i.pages) (not (knows since i.node (index_of i))) names new)

  rising : AllPairs (λ a b. IsTrue (by_weight a b)) intervals
  rising = missing_is.ascending

  abbrev Changes : ℕ → Rank → ℕ → Type 0
  Changes offset = IsChangeBetween made page offset since time

  -- what an interval that is missing changed
  as_change : (offset value : ℕ) (i : IntervalRecord) (l : Lacked i) → change_at (known_of i) offset ≡ Some value → Changes offset (rank_of i) value
  as_change offset value i l some = record {
    interval = l.interval;
    member = l.member;
    later = l.later;
    known = l.upto;
    ranked = ap rank_of (sym l.is);
    changed = ap (λ cs. change_at cs offset) l.changes ∙ some;
  }

  of_change : (rank : Rank) (offset value : ℕ) (b : Changes offset rank value) → change_at (known_of (interval_of b.interval)) offset ≡ Some value
  of_change rank offset value b =
      let l = lacked (interval_of b.interval) (is_lacked rank offset value b) in
      let same : l.interval ≡ b.interval =
      k.apart l.interval b.interval l.member b.member (ap (λ (i : IntervalRecord). i.node) l.is)
      (ap (λ (i : IntervalRecord). weight_of i.stamp) l.is) in
      ap (λ cs. change_at cs offset) (sym l.changes ∙ ap (changes_on page) same) ∙ b.changed

  no_some_here : (o : Option ℕ) (value : ℕ) → o ≡ None → o ≡ Some value → ⊥
  no_some_here o value none some = cc

  same_value : (o : Option ℕ) (a b : ℕ) → o ≡ Some a → o ≡ Some b → a ≡ b
  same_value o a b e f = same_Some a b (sym e ∙ f)

  -- both name the highest
  same_word : (offset was out : ℕ) (word : Word) → Becomes known_of intervals offset was out → TakesHighest (Changes offset) (unmarked was) word
      → out ≡ word.value
  same_word offset was out word (left is none) (unchanged same never) = is ∙ sym (ap (λ (w : Word). w.value) same)
  same_word offset was out word (left is none) (taken rank value b above same least) =
      absurd (no_some_here (change_at (known_of (interval_of b.interval)) offset) value (none (interval_of b.interval) (is_lacked rank offset value b))
      (of_change rank offset value b))
  same_word offset was out word (changed i c some highest) (unchanged same never) =
      absurd (true≢false (never (rank_of i) out (as_change offset out i (lacked i c) some)))
  same_word offset was out word (changed i c some highest) (taken rank value b above same least) =
      let l = lacked i c in
      let up : is_lower (rank_of i) rank ≡ false =
      subst (λ r. is_lower (rank_of i) r ≡ false) (sym b.ranked)
      (highest (interval_of b.interval) value (is_lacked rank offset value b) (of_change rank offset value b)) in
      let down : is_lower rank (rank_of i) ≡ false = least (rank_of i) out (as_change offset out i l some) in
      let both = neither_lower (rank_of i) rank up down in
      let one : l.interval ≡ b.interval =
      k.apart l.interval b.interval l.member b.member
      (ap (λ (i : IntervalRecord). i.node) l.is ∙ both.1 ∙ ap (λ (r : Rank). r.node) b.ranked)
      (ap (λ (i : IntervalRecord). weight_of i.stamp) l.is ∙ both.0 ∙ ap (λ (r : Rank). r.weight) b.ranked) in
      let mine : change_at (changes_on page b.interval) offset ≡ Some out =
      ap (λ x. change_at (changes_on page x) offset) (sym one) ∙ ap (λ cs. change_at cs offset) l.changes ∙ some in
      same_value (change_at (changes_on page b.interval) offset) out value mine b.changed ∙ sym (ap (λ (w : Word). w.value) same)

  -- The word at an offset, with all applied that the page lacks, is the exact memory's.
  pub repairs_exactly : (values : List ℕ) (offset : ℕ) (word : Word) → offset < length values
      → TakesHighest (IsChangeBetween made page offset since time) (unmarked (slice_index values offset)) word
      → slice_index (all_applied store values (missing_of store page since)) offset ≡ word.value
  repairs_exactly values offset word lt f =
      ap (λ lists. slice_index (fold applied values lists) offset) (map_twice (key_of page) (changes_or_none store) intervals)
      ∙ same_word offset (slice_index values offset) (slice_index (fold applied values (map known_of intervals)) offset) word
      (becomes known_of offset intervals values lt rising) f
