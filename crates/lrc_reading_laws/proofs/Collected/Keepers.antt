-- Who keeps a page after a collection: the least node that names it, by the members of the list of intervals alone.
use Rattle.std.proofs.Common.{◌≡◌, ◌⊎◌, ℕ, ◌+◌, ◌<◌, ◌≤◌, List, [], ◌∷◌, Bool, true, false, length, refl, sym, ap, subst, ◌∙◌, inl, inr, arith}
use Rattle.std.specs.Prelude.{Option, Some, None, Contains, ◌==◌, ◌&&◌, ◌||◌, min, unwrap_or, option_map, map, filter_map, slice_index, if◌then◌else◌}
use Rattle.std.specs.List.{list_any, enumerate_from, cons_option, range_with_len}
use Rattle.std.proofs.lemmas.Bool.{and_parts, and_from, or_cases, or_left, or_right, cases_lt, false≢true, eqb-true, eq-eqb}
use Rattle.std.proofs.lemmas.Option.{same_Some}
use Rattle.std.proofs.lemmas.List.{get_or_past, get_or-map}
use Rattle.std.proofs.lemmas.List.FromFn.{get_or-enumerate_from, length-enumerate_from}
use Rattle.lrc_store.specs.Interval.{IntervalRecord}
use Rattle.lrc_store.specs.Store.{intervals_of}
use Rattle.lrc_store.proofs.Orders.{Contains-first, Contains-later, cases_Contains, none_Contains, filter-Contains}
use Rattle.lrc_protocol.specs.Times.{is_named}
use Rattle.lrc_protocol.specs.Pages.{Memory, keeper_at}
use Rattle.lrc_protocol.specs.Barriers.{least, kept_pages}
use Rattle.lrc_node_laws.proofs.Lists.{length-placed}
use Rattle.lrc_reading_laws.proofs.Closed.Stored.{in_range, from_range}
use Rattle.lrc_reading_laws.proofs.Collected.Turns.{keepers_after}

-- ---- the least of some numbers

none_some : {X Y : Type 0} (x : X) → None ≡ Some x → Y
none_some x e = let never : ⊥ = cc in absurd never

none_least : (xs : List ℕ) → least xs ≡ None → (x : ℕ) → Contains xs x → ⊥
none_least [] e x there = none_Contains x there
none_least (y ∷ xs) e x there = none_some (unwrap_or (option_map (min y) (least xs)) y) (sym e)

-- it is one of them, and none is less
record IsLeast (xs : List ℕ) (m : ℕ) : Type 0 where
  among : Contains xs m
  below : (x : ℕ) → Contains xs x → m ≤ x

least_is : (xs : List ℕ) (m : ℕ) → least xs ≡ Some m → IsLeast xs m
least_is [] m e = none_some m e
least_is (x ∷ xs) m e = by_rest (λ n some. least_is xs n some) (least xs) refl (same_Some _ m e)
  where
    first : (m : ℕ) → x ≡ m → ((y : ℕ) → Contains xs y → m ≤ y) → IsLeast (x ∷ xs) m
    first m is rest = record {
      among = subst (Contains (x ∷ xs)) is (Contains-first x xs);
      below = λ y there. elim (cases_Contains x xs y there) [ inl here ↦ omega (arith, is, here) | inr later ↦ rest y later ];
    }

    by_rest : ((n : ℕ) → least xs ≡ Some n → IsLeast xs n) → (o : Option ℕ) → least xs ≡ o → unwrap_or (option_map (min x) o) x ≡ m
        → IsLeast (x ∷ xs) m
    by_rest more None none is = first m is (λ y there. absurd (none_least xs none y there))
    by_rest more (Some n) some is =
        let rest : IsLeast xs n = more n some in
        elim (cases_lt n x) [
          | inl lt ↦
              let same : n ≡ m = omega (arith, is, lt) in
              record {
                among = Contains-later x xs m (subst (Contains xs) same rest.among);
                below = λ y there. elim (cases_Contains x xs y there) [
                  | inl here ↦ omega (arith, same, lt, here)
                  | inr later ↦ let le : n ≤ y = rest.below y later in omega (arith, same, le)
                ];
              }
          | inr le ↦
              first m (omega (arith, is, le)) (λ y there. let more : n ≤ y = rest.below y there in omega (arith, is, le, more))
        ]

-- the members decide it
least_same : (xs ys : List ℕ) → ((x : ℕ) → Contains xs x → Contains ys x) → ((x : ℕ) → Contains ys x → Contains xs x) → least xs ≡ least ys
least_same xs ys into back = by_both (least xs) (least ys) refl refl
  where
    by_both : (a b : Option ℕ) → least xs ≡ a → least ys ≡ b → least xs ≡ least ys
    by_both None None e f = e ∙ sym f
    by_both None (Some n) e f = absurd (none_least xs e n (back n (least_is ys n f).among))
    by_both (Some m) None e f = absurd (none_least ys f m (into m (least_is xs m e).among))
    by_both (Some m) (Some n) e f =
        let x : IsLeast xs m = least_is xs m e in
        let y : IsLeast ys n = least_is ys n f in
        let le : m ≤ n = x.below n (back n y.among) in
        let ge : n ≤ m = y.below m (into m x.among) in
        let is : m ≡ n = omega (arith, le, ge) in
        e ∙ ap Some is ∙ sym f

-- ---- who names a page

-- one interval names it
abbrev pub names : ℕ → IntervalRecord → Bool
names page i = list_any (λ named. named == page) i.pages

-- the nodes with one of these intervals that names it
abbrev pub namers_in : List IntervalRecord → ℕ → List ℕ
namers_in intervals page = filter_map (λ i. if is_named (i ∷ []) page then Some i.node else None) intervals

-- a member that names it
pub record Namer (intervals : List IntervalRecord) (page node : ℕ) : Type 0 where
  pub interval : IntervalRecord
  pub among : Contains intervals interval
  pub node_is : interval.node ≡ node
  pub named : names page interval ≡ true

pub namer_of : (intervals : List IntervalRecord) (page : ℕ) → is_named intervals page ≡ true → (node : ℕ) × Namer intervals page node
namer_of [] page e = absurd (false≢true e)
namer_of (i ∷ intervals) page e = elim (or_cases (names page i) (is_named intervals page) e) [
  | inl here ↦ (i.node, record { interval = i; among = Contains-first i intervals; node_is = refl; named = here })
  | inr later ↦
      let rest : (node : ℕ) × Namer intervals page node = namer_of intervals page later in (
        rest.0,
        record {
          interval = rest.1.interval;
          among = Contains-later i intervals rest.1.interval rest.1.among;
          node_is = rest.1.node_is;
          named = rest.1.named;
        },
      )
]

pub is_named_by : (intervals : List IntervalRecord) (page : ℕ) (i : IntervalRecord) → Contains intervals i → names page i ≡ true
    → is_named intervals page ≡ true
is_named_by [] page i there e = absurd (none_Contains i there)
is_named_by (x ∷ intervals) page i there e = elim (cases_Contains x intervals i there) [
  | inl here ↦ or_left (names page x) (is_named intervals page) (ap (names page) here ∙ e)
  | inr later ↦ or_right (names page x) (is_named intervals page) (is_named_by intervals page i later e)
]

alone : (b : Bool) → (b || false) ≡ b
alone true = refl
alone false = refl

in_namers : (intervals : List IntervalRecord) (page node : ℕ) → Namer intervals page node → Contains (namers_in intervals page) node
in_namers [] page node n = absurd (none_Contains n.interval n.among)
in_namers (x ∷ intervals) page node n =
    by_test (λ k. in_namers intervals page node k) (is_named (x ∷ []) page) refl (cases_Contains x intervals n.interval n.among)
  where
    by_test : (Namer intervals page node → Contains (namers_in intervals page) node) → (b : Bool) → is_named (x ∷ []) page ≡ b
        → (x ≡ n.interval) ⊎ Contains intervals n.interval
        → Contains (cons_option (if b then Some x.node else None) (namers_in intervals page)) node
    by_test more true is (inl here) =
        subst (Contains (x.node ∷ namers_in intervals page)) (ap (λ (i : IntervalRecord). i.node) here ∙ n.node_is)
        (Contains-first x.node (namers_in intervals page))
    by_test more true is (inr later) =
        Contains-later x.node (namers_in intervals page) node
        (more (record { interval = n.interval; among = later; node_is = n.node_is; named = n.named }))
    by_test more false is (inl here) = absurd (false≢true (sym is ∙ alone (names page x) ∙ ap (names page) here ∙ n.named))
    by_test more false is (inr later) =
        more (record { interval = n.interval; among = later; node_is = n.node_is; named = n.named })

from_namers : (intervals : List IntervalRecord) (page node : ℕ) → Contains (namers_in intervals page) node → Namer intervals page node
from_namers [] page node there = absurd (none_Contains node there)
from_namers (x ∷ intervals) page node there = by_test (λ t. from_namers intervals page node t) (is_named (x ∷ []) page) refl there
  where
    later : Namer intervals page node → Namer (x ∷ intervals) page node
    later n = record {
      interval = n.interval;
      among = Contains-later x intervals n.interval n.among;
      node_is = n.node_is;
      named = n.named;
    }

    by_test : (Contains (namers_in intervals page) node → Namer intervals page node) → (b : Bool) → is_named (x ∷ []) page ≡ b
        → Contains (cons_option (if b then Some x.node else None) (namers_in intervals page)) node → Namer (x ∷ intervals) page node
    by_test more true is there = elim (cases_Contains x.node (namers_in intervals page) node there) [
      | inl here ↦ record { interval = x; among = Contains-first x intervals; node_is = here; named = sym (alone (names page x)) ∙ is }
      | inr rest ↦ later (more rest)
    ]
    by_test more false is there = later (more there)

-- ---- keepers

map_same : {X Y : Type 0} (f g : X → Y) (xs : List X) → ((x : X) → f x ≡ g x) → map f xs ≡ map g xs
map_same f g [] same = refl
map_same f g (x ∷ xs) same = ap (λ y. y ∷ map f xs) (same x) ∙ ap (λ ys. g x ∷ ys) (map_same f g xs same)

-- the members of the list of intervals decide who keeps the pages
pub keepers_same : (a b : List IntervalRecord) (keepers : List ℕ) → ((i : IntervalRecord) → Contains a i → Contains b i)
    → ((i : IntervalRecord) → Contains b i → Contains a i) → keepers_after a keepers ≡ keepers_after b keepers
keepers_same a b keepers into back =
    map_same _ _ (enumerate_from 0 keepers) (λ place.
    ap (λ o. unwrap_or o place.1)
    (least_same (namers_in a place.0) (namers_in b place.0)
    (λ node there.
    let n : Namer a place.0 node = from_namers a place.0 node there in
    in_namers b place.0 node (record { interval = n.interval; among = into n.interval n.among; node_is = n.node_is; named = n.named }))
    (λ node there.
    let n : Namer b place.0 node = from_namers b place.0 node there in
    in_namers a place.0 node (record { interval = n.interval; among = back n.interval n.among; node_is = n.node_is; named = n.named }))))

-- the keeper of one page
keeper_then : (intervals : List IntervalRecord) (keepers : List ℕ) (page : ℕ) → page < length keepers
    → slice_index (keepers_after intervals keepers) page ≡ unwrap_or (least (namers_in intervals page)) (slice_index keepers page)
keeper_then intervals keepers page lt =
    let f : ℕ × ℕ → ℕ = λ place. unwrap_or (least (namers_in intervals place.0)) place.1 in
    let same : 0 + page ≡ page = omega arith in
    get_or-map f (enumerate_from 0 keepers) page (0, 0) 0 (omega (arith, lt, length-enumerate_from 0 keepers))
    ∙ ap f (get_or-enumerate_from 0 keepers page (0, 0) lt)
    ∙ ap (λ k. f (k, slice_index keepers page)) same

-- a page that is not named stays with its keeper
pub keeper-unnamed : (intervals : List IntervalRecord) (keepers : List ℕ) (page : ℕ) → is_named intervals page ≡ false
    → slice_index (keepers_after intervals keepers) page ≡ slice_index keepers page
keeper-unnamed intervals keepers page none = elim (cases_lt page (length keepers)) [
  | inl lt ↦ keeper_then intervals keepers page lt ∙ by_least (least (namers_in intervals page)) refl
  | inr le ↦
      get_or_past (keepers_after intervals keepers) page 0
      (omega (arith, le, length-placed (λ (place : ℕ × ℕ). unwrap_or (least (namers_in intervals place.0)) place.1) keepers))
      ∙ sym (get_or_past keepers page 0 le)
]
  where
    by_least : (o : Option ℕ) → least (namers_in intervals page) ≡ o
        → unwrap_or (least (namers_in intervals page)) (slice_index keepers page) ≡ slice_index keepers page
    by_least None e = ap (λ o. unwrap_or o (slice_index keepers page)) e
    by_least (Some m) e =
        let n : Namer intervals page m = from_namers intervals page m (least_is (namers_in intervals page) m e).among in
        absurd (false≢true (sym none ∙ is_named_by intervals page n.interval n.among n.named))

-- one that is named goes to a node that names it
pub keeper-named : (intervals : List IntervalRecord) (keepers : List ℕ) (page : ℕ) → page < length keepers → is_named intervals page ≡ true
    → Namer intervals page (slice_index (keepers_after intervals keepers) page)
keeper-named intervals keepers page lt named = by_least (least (namers_in intervals page)) refl
  where
    by_least : (o : Option ℕ) → least (namers_in intervals page) ≡ o → Namer intervals page (slice_index (keepers_after intervals keepers) page)
    by_least None e =
        let n : (node : ℕ) × Namer intervals page node = namer_of intervals page named in
        absurd (none_least (namers_in intervals page) e n.0 (in_namers intervals page n.0 n.1))
    by_least (Some m) e =
        subst (Namer intervals page) (sym (keeper_then intervals keepers page lt ∙ ap (λ o. unwrap_or o (slice_index keepers page)) e))
        (from_namers intervals page m (least_is (namers_in intervals page) m e).among)

-- ---- kept pages

-- the pages that are named and the node's to keep
pub in_kept : (me : ℕ) (memory : Memory) (page : ℕ) → page < length memory.keepers → is_named (intervals_of memory.store) page ≡ true
    → keeper_at memory page ≡ me → Contains (kept_pages me memory) page
in_kept me memory page lt named mine =
    (filter-Contains (λ page. is_named (intervals_of memory.store) page && (keeper_at memory page == me)) (range_with_len 0 (length memory.keepers)) page).1 (
      in_range 0 (length memory.keepers) page (omega arith) (omega (arith, lt)),
      and_from (is_named (intervals_of memory.store) page) (keeper_at memory page == me) named (eq-eqb (keeper_at memory page) me mine),
    )

pub record IsKept (me : ℕ) (memory : Memory) (page : ℕ) : Type 0 where
  pub in_range : page < length memory.keepers
  pub named : is_named (intervals_of memory.store) page ≡ true
  pub mine : keeper_at memory page ≡ me

pub from_kept : (me : ℕ) (memory : Memory) (page : ℕ) → Contains (kept_pages me memory) page → IsKept me memory page
from_kept me memory page there =
    let test : ℕ → Bool = λ page. is_named (intervals_of memory.store) page && (keeper_at memory page == me) in
    let both : Contains (range_with_len 0 (length memory.keepers)) page × (test page ≡ true) =
    (filter-Contains test (range_with_len 0 (length memory.keepers)) page).0 there in
    let parts : _ = and_parts (is_named (intervals_of memory.store) page) (keeper_at memory page == me) both.1 in
    record {
      in_range = let lt : page < 0 + length memory.keepers = (from_range 0 (length memory.keepers) page both.0).1 in omega (arith, lt);
      named = parts.0;
      mine = eqb-true (keeper_at memory page) me parts.1;
    }
