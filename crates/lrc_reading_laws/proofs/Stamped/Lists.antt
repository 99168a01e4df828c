-- Intervals that were closed: as members of lists, and by node and index.
use Rattle.std.proofs.Common.{◌≡◌, ℕ, ◌+◌, ◌<◌, ◌≤◌, List, [], ◌∷◌, ◌++◌, Bool, true, false, map, refl, sym, ap, subst, ◌∙◌, ⊎_elim, arith}
use Rattle.std.specs.Prelude.{Option, Some, None, is_some, ◌==◌, All, AllPairs, Contains, filter_map, option_map, slice_index_or, if◌then◌else◌}
use Rattle.std.specs.List.{cons_option, enumerate_from, range_with_len}
use Rattle.std.proofs.lemmas.Bool.{and_parts, and_from, eq-eqb, eqb-true, false_from_ne_true}
use Rattle.std.proofs.lemmas.Option.{same_Some}
use Rattle.std.proofs.lemmas.List.Elements.{All-nil, All-cons, All-map, All-weaker, Contains-get_or, Contains-push_cases}
use Rattle.std.proofs.lemmas.List.Kept.{AllPairs-cons}
use Rattle.lrc_page.specs.declared.changes.Change.{Change}
use Rattle.lrc_store.specs.Interval.{IntervalRecord}
use Rattle.lrc_store.specs.Store.{StoredRecord, NoticeRecord, interval_of, is_at, stored_at}
use Rattle.lrc_time.specs.Time.{entry}
use Rattle.lrc_store.proofs.Orders.{map-map}
use Rattle.lrc_store.proofs.Lookups.{find-push_other, find-push_here}
use Rattle.lrc_copies.specs.Stamps.{stamp_index}
use Rattle.lrc_copies.proofs.Members.{Contains-first, Contains-later, cases_Contains, none_Contains}
use Rattle.lrc_protocol.specs.Times.{indices_by, next_time}
use Rattle.lrc_protocol.specs.Pages.{Copy, changes_of, all_changes, closed_interval}
use Rattle.lrc_protocol.specs.Node.{Node}
use Rattle.lrc_node_laws.specs.Own.{IsAttached}
use Rattle.lrc_reading_laws.specs.Written.{made_stamps}
use Rattle.lrc_reading_laws.proofs.Closed.History.{closed_record, closed_by}
use Rattle.lrc_reading_laws.proofs.Closed.MadeSteps.{closed_between}
use Rattle.lrc_reading_laws.proofs.Closed.Stored.{index_in, from_range}

-- ---- with changes, and without

pub interval-in : (made : List StoredRecord) (x : StoredRecord) → Contains made x → Contains (map interval_of made) (interval_of x)
interval-in [] x c = absurd (none_Contains x c)
interval-in (y ∷ made) x c =
    ⊎_elim
    (λ (same : y ≡ x).
    subst (λ (z : StoredRecord). Contains (map interval_of (y ∷ made)) (interval_of z)) same (Contains-first (interval_of y) (map interval_of made)))
    (λ (later : Contains made x). Contains-later (interval_of y) (map interval_of made) (interval_of x) (interval-in made x later))
    (cases_Contains y made x c)

pub record HasRecord (made : List StoredRecord) (i : IntervalRecord) : Type 0 where
  pub x : StoredRecord
  pub in_list : Contains made x
  pub is : interval_of x ≡ i

pub interval-from : (made : List StoredRecord) (i : IntervalRecord) → Contains (map interval_of made) i → HasRecord made i
interval-from [] i c = absurd (none_Contains i c)
interval-from (y ∷ made) i c =
    ⊎_elim
    (λ (same : interval_of y ≡ i). record { x = y; in_list = Contains-first y made; is = same })
    (λ (later : Contains (map interval_of made) i).
    let rest : HasRecord made i = interval-from made i later in
    record { x = rest.x; in_list = Contains-later y made rest.x rest.in_list; is = rest.is })
    (cases_Contains (interval_of y) (map interval_of made) i c)

-- what was made of a node has the indices from 1 up to its last
pub own_between : (made : List StoredRecord) (q n : ℕ) (x : StoredRecord) → indices_by (map interval_of made) q ≡ range_with_len 1 n → Contains made x
    → x.node ≡ q → (1 ≤ stamp_index made_stamps x) × (stamp_index made_stamps x ≤ n)
own_between made q n x exact c e =
    let index : ℕ = stamp_index made_stamps x in
    let some : (1 ≤ index) × (index < 1 + n) =
    from_range 1 n index (subst (λ ks. Contains ks index) exact (index_in q (map interval_of made) (interval_of x) (interval-in made x c) e)) in
    let most : index < 1 + n = some.1 in
    (some.0, omega (arith, most))

-- ---- by node and index

-- each is found by its node and index
abbrev pub AreFound : List StoredRecord → Type 0
AreFound made = (x : StoredRecord) → Contains made x → stored_at made x.node (stamp_index made_stamps x) ≡ Some x

pub is_at-parts : (node index : ℕ) (x : StoredRecord) → is_at node index x ≡ true → (x.node ≡ node) × (stamp_index made_stamps x ≡ index)
is_at-parts node index x at =
    let parts : (_ ≡ true) × (_ ≡ true) = and_parts (x.node == node) (stamp_index made_stamps x == index) at in
    (eqb-true _ _ parts.0, eqb-true _ _ parts.1)

pub is_at-from : (node index : ℕ) (x : StoredRecord) → x.node ≡ node → stamp_index made_stamps x ≡ index → is_at node index x ≡ true
is_at-from node index x e f = and_from (x.node == node) (stamp_index made_stamps x == index) (eq-eqb x.node node e) (eq-eqb (stamp_index made_stamps x) index f)

-- one more, with a greater index of its node
pub found-push : (made : List StoredRecord) (c : StoredRecord) → AreFound made
    → ((x : StoredRecord) → Contains made x → x.node ≡ c.node → stamp_index made_stamps x < stamp_index made_stamps c) → AreFound (made ++ c ∷ [])
found-push made c found above x x_in =
    ⊎_elim
    (λ (old : Contains made x).
    find-push_other (is_at x.node (stamp_index made_stamps x)) made c
    (false_from_ne_true _ (λ at.
    let parts : _ = is_at-parts x.node (stamp_index made_stamps x) c at in
    let less : stamp_index made_stamps x < stamp_index made_stamps c = above x old (sym parts.0) in
    let same : stamp_index made_stamps c ≡ stamp_index made_stamps x = parts.1 in
    omega (arith, less, same)))
    ∙ found x old)
    (λ (new : c ≡ x).
    subst (λ (z : StoredRecord). stored_at (made ++ c ∷ []) z.node (stamp_index made_stamps z) ≡ Some z) new
    (find-push_here (is_at c.node (stamp_index made_stamps c)) made c
    (λ k d within.
    let z : StoredRecord = slice_index_or made k d in
    false_from_ne_true _ (λ at.
    let parts : _ = is_at-parts c.node (stamp_index made_stamps c) z at in
    let less : stamp_index made_stamps z < stamp_index made_stamps c = above z (Contains-get_or made k d within) parts.0 in
    let same : stamp_index made_stamps z ≡ stamp_index made_stamps c = parts.1 in
    omega (arith, less, same)))
    (is_at-from c.node (stamp_index made_stamps c) c refl refl)))
    (Contains-push_cases made c x x_in)

-- so two of the same node and index are the same
pub found_once : (made : List StoredRecord) (x y : StoredRecord) → AreFound made → Contains made x → Contains made y → x.node ≡ y.node
    → stamp_index made_stamps x ≡ stamp_index made_stamps y → x ≡ y
found_once made x y found cx cy e f =
    same_Some x y (sym (found x cx) ∙ ap (λ n. stored_at made n (stamp_index made_stamps x)) e ∙ ap (stored_at made y.node) f ∙ found y cy)

-- ---- the interval that a node closes

abbrev note : ℕ × List Change → NoticeRecord
note page = record { page = page.0; changes = Some page.1 }

-- all its changes are known
pub closed-attached : (node : Node) → IsAttached (closed_record node)
closed-attached node = All-map (λ (notice : NoticeRecord). is_some notice.changes ≡ true) note (all_changes node.memory) (λ k d within. refl)

abbrev chosen : ℕ × Copy → Option (ℕ × List Change)
chosen place = option_map (λ changes. (place.0, changes)) (changes_of place.1)

above-cons : (least start : ℕ) (o : Option (List Change)) (pages : List (ℕ × List Change)) → least ≤ start
    → All (λ (page : ℕ × List Change). least ≤ page.0) pages
    → All (λ (page : ℕ × List Change). least ≤ page.0) (cons_option (option_map (λ changes. (start, changes)) o) pages)
above-cons least start None pages le h = h
above-cons least start (Some changes) pages le h = All-cons (λ (page : ℕ × List Change). least ≤ page.0) (start, changes) pages le h

chosen-above : (least start : ℕ) (copies : List Copy) → least ≤ start
    → All (λ (page : ℕ × List Change). least ≤ page.0) (filter_map chosen (enumerate_from start copies))
chosen-above least start [] le = All-nil (λ (page : ℕ × List Change). least ≤ page.0)
chosen-above least start (copy ∷ copies) le =
    above-cons least start (changes_of copy) (filter_map chosen (enumerate_from (start + 1) copies)) le
    (chosen-above least (start + 1) copies (omega (arith, le)))

abbrev Rises : List NoticeRecord → Type 0
Rises notices = AllPairs (λ (a b : NoticeRecord). a.page < b.page) notices

rising-cons : (start : ℕ) (o : Option (List Change)) (pages : List (ℕ × List Change)) → All (λ (page : ℕ × List Change). start + 1 ≤ page.0) pages
    → Rises (map note pages) → Rises (map note (cons_option (option_map (λ changes. (start, changes)) o) pages))
rising-cons start None pages above h = h
rising-cons start (Some changes) pages above h =
    AllPairs-cons (λ (a b : NoticeRecord). a.page < b.page) (note (start, changes)) (map note pages)
    (All-map (λ (b : NoticeRecord). start < b.page) note pages
    (All-weaker (λ (page : ℕ × List Change). start + 1 ≤ page.0) (λ (page : ℕ × List Change). start < page.0)
    (λ page le. omega (arith, le)) pages above))
    h

chosen-rising : (start : ℕ) (copies : List Copy) → Rises (map note (filter_map chosen (enumerate_from start copies)))
chosen-rising start [] = λ i j d less within. absurd (omega (arith, within))
chosen-rising start (copy ∷ copies) =
    rising-cons start (changes_of copy) (filter_map chosen (enumerate_from (start + 1) copies))
    (chosen-above (start + 1) (start + 1) copies (omega arith)) (chosen-rising (start + 1) copies)

-- its pages ascend
pub closed-rising : (node : Node) → AllPairs (λ (a b : NoticeRecord). a.page < b.page) (closed_record node).notices
closed-rising node = chosen-rising 0 node.memory.copies

-- without its changes it is the interval that the machine closes
pub closed-interval : (node : Node) → interval_of (closed_record node) ≡ closed_interval node.setting.me (next_time node.setting.me node.locks.time) node.memory
closed-interval node =
    ap (λ pages. record { node = node.setting.me; stamp = next_time node.setting.me node.locks.time; pages = pages })
    (map-map note (λ (notice : NoticeRecord). notice.page) (all_changes node.memory))

pub closed-between : (node after : Node) → map interval_of (closed_by node after)
    ≡ closed_between node.setting.me node.locks.time node.memory after.locks.time
closed-between node after = by_test (entry after.locks.time node.setting.me == entry node.locks.time node.setting.me)
  where
    by_test : (b : Bool) → map interval_of (if b then [] else closed_record node ∷ [])
        ≡ (if b then [] else closed_interval node.setting.me (next_time node.setting.me node.locks.time) node.memory ∷ [])
    by_test true = refl
    by_test false = ap (λ i. i ∷ []) (closed-interval node)
