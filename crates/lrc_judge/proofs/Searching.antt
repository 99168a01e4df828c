-- Lemmas on entries in order.
use Rattle.std.proofs.Common.{◌≡◌, ℕ, ◌+◌, ◌-◌, ◌<◌, ◌≤◌, ◌⊎◌, ◌++◌, List, [], ◌∷◌, length, get_or, inl, inr, refl, sym, subst, ◌∙◌, ap, arith}
use Rattle.std.specs.Prelude.{◌&&◌, ◌==◌, not, Bool, true, false, Contains, Some, slice_get}
use Rattle.std.specs.Ordering.{nat_cmp}
use Rattle.std.specs.List.{AllWithin}
use Rattle.std.specs.Cmp.{IsTotalOrder}
use Rattle.std.specs.List.Sorted.{IsStrictlySortedBy, IsPartitionPoint}
use Rattle.std.specs.declared.cmp.Ordering.{Ordering}
use Rattle.std.specs.declared.cmp.Ordering.TheVariants.{Less, Equal, Greater}
use Rattle.std.proofs.lemmas.Bool.{cases_Bool, cases_lt, cases_eq, and_parts, and_from, false≢true, eq-eqb, eqb-true}
use Rattle.std.proofs.lemmas.Cmp.{nat_cmp_total, on_total, then_total}
use Rattle.std.proofs.lemmas.List.{get_or_default}
use Rattle.std.proofs.lemmas.Option.{slice_get_within, slice_get-get_or, get_or_from_slice_get, same_Some}
use Rattle.std.proofs.lemmas.Map.Keys.{Less-from_sorted}
use Rattle.lrc_trace.specs.declared.act.Act.{Act}
use Rattle.lrc_trace.specs.declared.act.Deed.{Deed}
use Rattle.lrc_trace.specs.Run.{Does}
use Rattle.lrc_trace.specs.Order.{HappensBefore, base, program}
use Rattle.lrc_trace.proofs.HappensBefore.{transitive}
use Rattle.lrc_judge.specs.declared.lanes.Lane.{Lane}
use Rattle.lrc_judge.specs.declared.lanes.Entry.{Entry}
use Rattle.lrc_judge.specs.declared.lanes.Pair.{Pair}
use Rattle.lrc_judge.specs.declared.order.Order.{Order}
use Rattle.lrc_judge.specs.Order.{is_before, IsOrderOf}
use Rattle.lrc_judge.specs.Adding.{Adds}
use Rattle.lrc_judge.specs.Lanes.{lane_cmp, entry_cmp, entry, is_earlier_or, is_behind, AreEntries, AreSearchable, IsLastOfLane, IsOfLane}
use Rattle.lrc_judge.proofs.Comparing.{then_less, then_equal, then_from, less_equal, compared_same, nat_less, nat_equal}
use Rattle.lrc_judge.proofs.Additions.{adds-same, adds-iff, adds-both, adds-push}

-- ---- lanes and entries compared

lane_total : IsTotalOrder lane_cmp
lane_total = then_total (on_total (λ (l : Lane). l.word) nat_cmp_total)
    (then_total (on_total (λ (l : Lane). l.value) nat_cmp_total) (on_total (λ (l : Lane). l.node) nat_cmp_total))

pub entry_total : IsTotalOrder entry_cmp
entry_total = then_total (on_total (λ (e : Entry). e.lane) lane_total) (on_total (λ (e : Entry). e.position) nat_cmp_total)

pub lane_same : (a b : Lane) → lane_cmp a b ≡ Equal → a ≡ b
lane_same a b h =
    let (words, h1) = then_equal (nat_cmp a.word b.word) _ h in
    let (values, nodes) = then_equal (nat_cmp a.value b.value) _ h1 in
    let w : a.word ≡ b.word = nat_equal a.word b.word words in
    let v : a.value ≡ b.value = nat_equal a.value b.value values in
    let n : a.node ≡ b.node = nat_equal a.node b.node nodes in
    let e : ◌≡◌ {A = Lane} (record { word = a.word; value = a.value; node = a.node }) (record { word = b.word; value = b.value; node = b.node }) = cc in e

pub lane_refl : (a : Lane) → lane_cmp a a ≡ Equal
lane_refl a = then_from _ _ (compared_same a.word a.word refl)
    (then_from _ _ (compared_same a.value a.value refl) (compared_same a.node a.node refl))

pub lane_irreflexive : (a b : Lane) → lane_cmp a b ≡ Less → a ≡ b → ⊥
lane_irreflexive a b less same =
    let equal : lane_cmp a b ≡ Equal = subst (λ l. lane_cmp a l ≡ Equal) same (lane_refl a) in
    less_equal (sym less ∙ equal)

pub entry_less : (x y : Entry) → entry_cmp x y ≡ Less → (lane_cmp x.lane y.lane ≡ Less) ⊎ ((x.lane ≡ y.lane) × (x.position < y.position))
entry_less x y h =
    elim (then_less (lane_cmp x.lane y.lane) (nat_cmp x.position y.position) h) [
      | inl less ↦ inl less
      | inr (equal, less) ↦ inr (lane_same x.lane y.lane equal, nat_less x.position y.position less)
    ]

-- what the test says whether two lanes differ
abbrev pub lane_eq : Lane → Lane → Bool
lane_eq a b = (a.word == b.word) && ((a.value == b.value) && (a.node == b.node))

pub lane_agrees : (a b : Lane) → false ≡ not (lane_eq a b) → a ≡ b
lane_agrees a b h =
    let both : lane_eq a b ≡ true = elim (cases_Bool (lane_eq a b)) [ inl yes' ↦ yes' | inr other ↦ absurd (false≢true (h ∙ ap not other)) ] in
    let (words, rest) = and_parts (a.word == b.word) _ both in
    let (values, nodes) = and_parts (a.value == b.value) _ rest in
    let w : a.word ≡ b.word = eqb-true a.word b.word words in
    let v : a.value ≡ b.value = eqb-true a.value b.value values in
    let n : a.node ≡ b.node = eqb-true a.node b.node nodes in
    let e : ◌≡◌ {A = Lane} (record { word = a.word; value = a.value; node = a.node }) (record { word = b.word; value = b.value; node = b.node }) = cc in e

pub lane_differs : (a b : Lane) → true ≡ not (lane_eq a b) → a ≡ b → ⊥
lane_differs a b h same =
    let both : lane_eq a b ≡ true = and_from (a.word == b.word) _ (eq-eqb a.word b.word (ap (λ (l : Lane). l.word) same))
    (and_from (a.value == b.value) _ (eq-eqb a.value b.value (ap (λ (l : Lane). l.value) same)) (eq-eqb a.node b.node (ap (λ (l : Lane). l.node) same))) in
    false≢true (sym (h ∙ ap not both))

-- ---- entries in order

earlier_or : (o : Ordering) (b : Bool) → is_earlier_or o b ≡ true → (o ≡ Less) ⊎ ((o ≡ Equal) × (b ≡ true))
earlier_or Less b h = inl refl
earlier_or Equal b h = inr (refl, h)
earlier_or Greater b h = absurd (false≢true h)

from_earlier : (o : Ordering) (b : Bool) → o ≡ Less → is_earlier_or o b ≡ true
from_earlier o b e = rw e refl

-- of a lane's own entries the test says it
on_lane : (order : Order) (lane : Lane) (position : ℕ) (e : Entry) → e.lane ≡ lane → is_behind order lane position e ≡ is_before order e.position position
on_lane order lane position e same =
    let equal : lane_cmp e.lane lane ≡ Equal = subst (λ l. lane_cmp l lane ≡ Equal) (sym same) (lane_refl lane) in rw equal refl

-- the entry at an index, with what stands there by another default
pub contained_at : (entries : List Entry) (i : ℕ) (d : Entry) → i < length entries → Contains entries (get_or entries i d)
contained_at entries i d within = (i, within, get_or_default entries i (get_or entries i d) d within)

module _ (run : List Act) (these : Lane → ℕ → Type 0) (entries : List Entry) (order : Order) (are : AreEntries these entries)
    (acts : (lane : Lane) (i : ℕ) → these lane i → (d : Deed) × Does run i lane.node d) (is : IsOrderOf run order) where
  earlier_too : (lane : Lane) (position : ℕ) (x y : Entry) → Contains entries x → Contains entries y → entry_cmp x y ≡ Less
      → is_behind order lane position y ≡ true → is_behind order lane position x ≡ true
  earlier_too lane position x y has_x has_y less h =
      elim (entry_less x y less) [
        | inl lanes ↦ from_earlier (lane_cmp x.lane lane) _ (elim (earlier_or (lane_cmp y.lane lane) _ h) [
          | inl below ↦ lane_total.trans x.lane y.lane lane lanes below
          | inr (equal, _) ↦ subst (λ l. lane_cmp x.lane l ≡ Less) (lane_same y.lane lane equal) lanes
        ])
        | inr (same, lower) ↦
            elim (earlier_or (lane_cmp y.lane lane) _ h) [
              | inl below ↦ from_earlier (lane_cmp x.lane lane) _ (subst (λ l. lane_cmp l lane ≡ Less) (sym same) below)
              | inr (equal, before) ↦
                  let on : x.lane ≡ lane = same ∙ lane_same y.lane lane equal in
                  let (a, does_x) = acts x.lane x.position ((are.exact x.lane x.position).0 has_x) in
                  let (b, does_y) = acts y.lane y.position ((are.exact y.lane y.position).0 has_y) in
                  let does_y' : Does run y.position x.lane.node b = subst (λ (l : Lane). Does run y.position l.node b) (sym same) does_y in
                  let step : HappensBefore run x.position y.position = base (program lower does_x does_y') in
                  let all : HappensBefore run x.position position = transitive step ((is y.position position).0 before) in
                  on_lane order lane position x on ∙ (is x.position position).1 all
            ]
      ]

  pub searchable : AreSearchable order entries
  searchable = record {
    in_order = are.in_order;
    first = λ lane position i j d le lt h.
        elim (cases_lt i j) [
          | inl before ↦ earlier_too lane position (get_or entries i d) (get_or entries j d) (contained_at entries i d (omega arith))
              (contained_at entries j d lt) (Less-from_sorted entry_cmp entries i j d are.in_order before lt) h
          | inr not_before ↦
              let same : j ≡ i = omega arith in
              subst (λ k. is_behind order lane position (get_or entries k d) ≡ true) same h
        ];
  }

-- ---- where they are told apart by a look at two neighbours

module _ (entries : List Entry) (order : Order) (searchable : AreSearchable order entries) (lane : Lane) (position : ℕ) where
  pub behind_before : (at : ℕ) (x : Entry) → at < length entries → is_behind order lane position (get_or entries at x) ≡ true
      → AllWithin (λ e. is_behind order lane position e ≡ true) entries 0 (at + 1)
  behind_before at x within here = λ i d ge lt.
      let same : get_or entries at x ≡ get_or entries at d = get_or_default entries at x d within in
      searchable.first lane position i at d (omega arith) within (subst (λ e. is_behind order lane position e ≡ true) same here)

  pub beyond_after : (at : ℕ) (x : Entry) → at < length entries → is_behind order lane position (get_or entries at x) ≡ false
      → AllWithin (λ e. is_behind order lane position e ≡ false) entries at (length entries)
  beyond_after at x within here = λ i d ge lt.
      let same : get_or entries at x ≡ get_or entries at d = get_or_default entries at x d within in
      elim (cases_Bool (is_behind order lane position (get_or entries i d))) [
        | inl yes' ↦
            let early = searchable.first lane position at i d ge lt yes' in
            absurd (false≢true (sym (subst (λ e. is_behind order lane position e ≡ false) same here) ∙ early))
        | inr no' ↦ no'
      ]

-- ---- where the entries before a position end

module _ (entries : List Entry) (order : Order) (lane : Lane) (position beyond : ℕ) (in_order : IsStrictlySortedBy entry_cmp entries)
    (point : IsPartitionPoint (λ e. is_behind order lane position e ≡ true) (λ e. is_behind order lane position e ≡ false) entries beyond) where
  -- an entry of the lane before the position stands there
  pub stands_first : (k i : ℕ) → i < length entries → get_or entries i (entry lane k) ≡ entry lane k → is_before order k position ≡ true → i < beyond
  stands_first k i within is before =
      elim (cases_lt i beyond) [
        | inl lt ↦ lt
        | inr le ↦
            let late : is_behind order lane position (entry lane k) ≡ false =
            subst (λ e. is_behind order lane position e ≡ false) is (point.1 i (entry lane k) (omega arith) within) in
            absurd (false≢true (sym late ∙ on_lane order lane position (entry lane k) refl ∙ before))
      ]

  -- and one that is not stands beyond
  pub stands_beyond : (k i : ℕ) → get_or entries i (entry lane k) ≡ entry lane k → is_before order k position ≡ false → beyond ≤ i
  stands_beyond k i is after =
      elim (cases_lt i beyond) [
        | inr le ↦ omega arith
        | inl lt ↦
            let early : is_behind order lane position (entry lane k) ≡ true =
            subst (λ e. is_behind order lane position e ≡ true) is (point.0 i (entry lane k) (omega arith) lt) in
            absurd (false≢true (sym after ∙ sym (on_lane order lane position (entry lane k) refl) ∙ early))
      ]

  pub none_at_zero : beyond ≡ 0 → (k : ℕ) → Contains entries (entry lane k) → is_before order k position ≡ true → ⊥
  none_at_zero zero_is k (i, within, is) before = let lt = stands_first k i within is before in omega arith

  module _ (some : 0 < beyond) (bound : beyond ≤ length entries) (x : Entry) (there : x ≡ get_or entries (beyond - 1) x) where
    last_behind : is_behind order lane position x ≡ true
    last_behind = subst (λ e. is_behind order lane position e ≡ true) (sym there) (point.0 (beyond - 1) x (omega arith) (omega arith))

    -- an entry of the lane that is before the position is the last, or is less
    before_last : (k : ℕ) → Contains entries (entry lane k) → is_before order k position ≡ true → (entry lane k ≡ x) ⊎ (entry_cmp (entry lane k) x ≡ Less)
    before_last k (i, within, is) before =
        let lt = stands_first k i within is before in
        elim (cases_eq i (beyond - 1)) [
          | inl same ↦
              let at : get_or entries (beyond - 1) (entry lane k) ≡ entry lane k = subst (λ m. get_or entries m (entry lane k) ≡ entry lane k) same is in
              inl (sym at ∙ get_or_default entries (beyond - 1) (entry lane k) x (omega arith) ∙ sym there)
          | inr other ↦
              let less = Less-from_sorted entry_cmp entries i (beyond - 1) (entry lane k) in_order (omega arith) (omega arith) in
              let at : get_or entries (beyond - 1) (entry lane k) ≡ x = get_or_default entries (beyond - 1) (entry lane k) x (omega arith) ∙ sym there in
              let first : entry_cmp (entry lane k) (get_or entries (beyond - 1) (entry lane k)) ≡ Less =
              subst (λ e. entry_cmp e (get_or entries (beyond - 1) (entry lane k)) ≡ Less) is less in
              inr (subst (λ e. entry_cmp (entry lane k) e ≡ Less) at first)
        ]

    pub none_if_apart : (x.lane ≡ lane → ⊥) → (k : ℕ) → Contains entries (entry lane k) → is_before order k position ≡ true → ⊥
    none_if_apart apart k has before =
        elim (before_last k has before) [
          | inl same ↦ apart (ap (λ (e : Entry). e.lane) (sym same))
          | inr less ↦
              elim (entry_less (entry lane k) x less) [
                | inr (lanes, _) ↦ apart (sym lanes)
                | inl lanes ↦
                    elim (earlier_or (lane_cmp x.lane lane) _ last_behind) [
                      | inl below ↦ lane_irreflexive lane lane (lane_total.trans lane x.lane lane lanes below) refl
                      | inr (equal, _) ↦ apart (lane_same x.lane lane equal)
                    ]
              ]
        ]

    pub last_of_lane : x.lane ≡ lane → IsLastOfLane entries order lane position x.position
    last_of_lane on =
        let is : x ≡ entry lane x.position = subst (λ l. x ≡ entry l x.position) on refl in
        record {
          there = subst (λ e. Contains entries e) is (beyond - 1, omega arith, sym there);
          before = sym (on_lane order lane position x on) ∙ last_behind;
          last = λ k has before.
              elim (before_last k has before) [
                | inl same ↦ let e = ap (λ (y : Entry). y.position) same in omega (arith, e)
                | inr less ↦
                    elim (entry_less (entry lane k) x less) [
                      | inr (_, lower) ↦ omega (arith, lower)
                      | inl lanes ↦ absurd (lane_irreflexive lane x.lane lanes (sym on))
                    ]
              ];
        }

-- ---- the entries beyond

-- the pair is the position and an earlier one, whose entry of the lane stands from the first index up to the second
pub record IsFoundFrom (entries : List Entry) (lane : Lane) (position from upto : ℕ) (pair : Pair) : Type 0 where
  pub index : ℕ
  pub above : from ≤ index
  pub below : index < upto
  pub is : slice_get entries index ≡ Some (entry lane pair.earlier)
  pub later : pair.later ≡ position
  pub earlier : pair.earlier < position

pair_same : (p : Pair) (later earlier : ℕ) → p.later ≡ later → p.earlier ≡ earlier → p ≡ record { later = later; earlier = earlier }
pair_same p later earlier a b =
    let e : ◌≡◌ {A = Pair} (record { later = p.later; earlier = p.earlier }) (record { later = later; earlier = earlier }) = cc in e

module _ (entries : List Entry) (lane : Lane) (position beyond : ℕ) where
  pub found-none : (xs : List Pair) → Adds xs xs (IsFoundFrom entries lane position beyond beyond)
  found-none xs = adds-same xs _ (λ p f. let a = f.above in let b = f.below in omega arith)

  pub found-more : (xs ys zs : List Pair) (at earlier : ℕ) → beyond ≤ at → slice_get entries at ≡ Some (entry lane earlier) → earlier < position
      → zs ≡ ys ++ (record { later = position; earlier = earlier }) ∷ [] → Adds xs ys (IsFoundFrom entries lane position beyond at)
      → Adds xs zs (IsFoundFrom entries lane position beyond (at + 1))
  found-more xs ys zs at earlier from is below pushed adds =
      let pair : Pair = record { later = position; earlier = earlier } in
      adds-both xs ys zs (IsFoundFrom entries lane position beyond at) (λ p. p ≡ pair) (IsFoundFrom entries lane position beyond (at + 1))
      (λ p f.
      elim (cases_eq f.index at) [
        | inl same ↦
            let there : Some (entry lane p.earlier) ≡ Some (entry lane earlier) =
            sym (subst (λ k. slice_get entries k ≡ Some (entry lane p.earlier)) same f.is) ∙ is in
            let e : p.earlier ≡ earlier = ap (λ (x : Entry). x.position) (same_Some (entry lane p.earlier) (entry lane earlier) there) in
            inr (pair_same p position earlier f.later e)
        | inr other ↦
            let lt = f.below in
            inl (record { index = f.index; above = f.above; below = omega arith; is = f.is; later = f.later; earlier = f.earlier })
      ])
      (λ p h.
      elim h [
        | inl f ↦ let lt = f.below in record { index = f.index; above = f.above; below = omega arith; is = f.is; later = f.later; earlier = f.earlier }
        | inr same ↦ subst (λ q. IsFoundFrom entries lane position beyond (at + 1) q) (sym same)
            (record { index = at; above = from; below = omega arith; is = is; later = refl; earlier = below })
      ])
      adds (adds-push ys zs pair pushed)

  module _ (order : Order) (in_order : IsStrictlySortedBy entry_cmp entries)
      (point : IsPartitionPoint (λ e. is_behind order lane position e ≡ true) (λ e. is_behind order lane position e ≡ false) entries beyond) where
    pub found-all : (xs ys : List Pair) (at : ℕ) → beyond ≤ at
        → ((x : Entry) → slice_get entries at ≡ Some x → x.lane ≡ lane → x.position < position → ⊥)
        → Adds xs ys (IsFoundFrom entries lane position beyond at) → Adds xs ys (IsOfLane entries order lane position)
    found-all xs ys at from stop adds =
        adds-iff xs ys (IsFoundFrom entries lane position beyond at) (IsOfLane entries order lane position)
        (λ p f.
        let e : Entry = entry lane p.earlier in
        let within = slice_get_within entries f.index e f.is in
        let there : get_or entries f.index e ≡ e = get_or_from_slice_get entries f.index e e f.is in
        let late : is_behind order lane position e ≡ false =
        subst (λ y. is_behind order lane position y ≡ false) there (point.1 f.index e f.above within) in
        record {
          later = f.later;
          there = (f.index, within, there);
          earlier = f.earlier;
          unordered = sym (on_lane order lane position e refl) ∙ late;
        })
        (λ p o.
        let e : Entry = entry lane p.earlier in
        let (i, within, is) = o.there in
        let le = stands_beyond entries order lane position beyond in_order point p.earlier i is o.unordered in
        let here : slice_get entries i ≡ Some e = slice_get-get_or entries i e within ∙ ap (λ y. Some y) is in
        record {
          index = i;
          above = le;
          below = elim (cases_lt i at) [
            | inl lt ↦ lt
            | inr not_below ↦
                elim (cases_eq i at) [
                  | inl same ↦ absurd (stop e (subst (λ k. slice_get entries k ≡ Some e) same here) refl o.earlier)
                  | inr other ↦
                      let x = get_or entries at e in
                      let at_x : slice_get entries at ≡ Some x = slice_get-get_or entries at e (omega arith) in
                      let less : entry_cmp x e ≡ Less = subst (λ y. entry_cmp x y ≡ Less) is (Less-from_sorted entry_cmp entries at i e in_order (omega arith) within) in
                      elim (entry_less x e less) [
                        | inl lanes ↦ absurd (false≢true (sym (point.1 at e from (omega arith)) ∙ from_earlier (lane_cmp x.lane lane) _ lanes))
                        | inr (on, lower) ↦ let o_earlier = o.earlier in absurd (stop x at_x on (omega (arith, lower, o_earlier)))
                      ]
                ]
          ];
          is = here;
          later = o.later;
          earlier = o.earlier;
        }) adds
