-- The orders of intervals are orders, by which the intervals of a store can be compared.
use Rattle.std.proofs.Common.{◌≡◌, ◌≢◌, ℕ, ◌+◌, ◌<◌, ◌≤◌, ◌⊎◌, ◌∙◌, Bool, true, false, cond, nat_lt, eqb, ◌&&◌, ◌||◌, List, length}
use Rattle.std.proofs.Common.{get_or, map, refl, ap, sym, subst, inl, inr, ⊎_elim, arith, Ordering, Less, Equal, Greater}
use Rattle.std.specs.Cmp.{IsStrictWeakOrder}
use Rattle.std.specs.List.{AllPairs, filter}
use Rattle.std.specs.List.Sorted.{IsPermutation, IsSortedBy}
use Rattle.std.specs.Ordering.{is_lt, nat_cmp, ordering_then}
use Rattle.std.proofs.lemmas.Bool.{true≢false, cases_lt, eq-eqb, ne_eqb, lt-ltb, le-ltb}
use Rattle.std.proofs.lemmas.List.{get_or-map, length-map}
use Rattle.std.proofs.lemmas.List.Sorted.{IsStrictWeakOrder-by_number}
use Rattle.lrc_time.specs.Time.{Covers, weight_of}
use Rattle.lrc_time.proofs.Times.{weight-covers_strictly}
use Rattle.lrc_store.specs.declared.key.Key.{Key}
use Rattle.lrc_store.specs.Interval.{IntervalRecord, index_of, by_node, by_weight}
use Rattle.lrc_store.specs.Store.{StoreRecord, IsStore, IsMissing, IsNewer, intervals_of, is_missing, is_newer, key_of, missing_of, newer_of}
use Rattle.lrc_store.specs.Links.{ranked}
use Rattle.lrc_store.specs.Order.{ascending_part}
use Rattle.lrc_store.proofs.Orders.{Comparable, IsAscendingPart-ascending_part, IsAscendingPart-only}
use Rattle.lrc_store.proofs.Orders.{IsAscendingPart-from_sort, IsPermutation-from_map, map-map}

-- by a number first, and then by another order
module _ {X : Type 0} (rank : X → ℕ) (next : X → X → Bool) where
  abbrev pub by_rank : X → X → Bool
  by_rank a b = nat_lt (rank a) (rank b) || (eqb (rank a) (rank b) && next a b)

  pub less-by_rank : (a b : X) → rank a < rank b → by_rank a b ≡ true
  less-by_rank a b less = ap (λ v. v || (eqb (rank a) (rank b) && next a b)) (lt-ltb _ _ less)

  pub tied-by_rank : (a b : X) → rank a ≡ rank b → by_rank a b ≡ next a b
  tied-by_rank a b tied =
      ap (λ v. v || (eqb (rank a) (rank b) && next a b)) (le-ltb (rank a) (rank b) (omega arith))
      ∙ ap (λ v. v && next a b) (eq-eqb _ _ tied)

  pub greater-by_rank : (a b : X) → rank b < rank a → by_rank a b ≡ false
  greater-by_rank a b greater =
      ap (λ v. v || (eqb (rank a) (rank b) && next a b)) (le-ltb (rank a) (rank b) (omega arith))
      ∙ ap (λ v. v && next a b) (ne_eqb (rank a) (rank b) (λ tied. omega arith))

  pub cases_rank : (a b : X) → (rank a < rank b) ⊎ ((rank a ≡ rank b) ⊎ (rank b < rank a))
  cases_rank a b =
      ⊎_elim
      (λ (less : rank a < rank b). inl less)
      (λ at_least.
      ⊎_elim
      (λ (greater : rank b < rank a). inr (inr greater))
      (λ (at_most : rank a ≤ rank b). inr (inl (omega arith)))
      (cases_lt (rank b) (rank a)))
      (cases_lt (rank a) (rank b))

  -- what does not come before: it is greater, or tied and not before by the other order
  fails-by_rank : (a b : X) → by_rank a b ≡ false → (rank b < rank a) ⊎ ((rank a ≡ rank b) × (next a b ≡ false))
  fails-by_rank a b fails =
      ⊎_elim
      (λ (less : rank a < rank b). absurd (true≢false (sym (less-by_rank a b less) ∙ fails)))
      (λ others.
      ⊎_elim
      (λ (tied : rank a ≡ rank b). inr (tied, sym (tied-by_rank a b tied) ∙ fails))
      (λ (greater : rank b < rank a). inl greater)
      others)
      (cases_rank a b)

  pub IsStrictWeakOrder-by_rank : IsStrictWeakOrder next → IsStrictWeakOrder by_rank
  IsStrictWeakOrder-by_rank order = record {
    one_way = λ a b first.
        ⊎_elim
        (λ (less : rank a < rank b). greater-by_rank b a less)
        (λ others.
        ⊎_elim
        (λ (tied : rank a ≡ rank b). tied-by_rank b a (sym tied) ∙ order.one_way a b (sym (tied-by_rank a b tied) ∙ first))
        (λ (greater : rank b < rank a). absurd (true≢false (sym first ∙ greater-by_rank a b greater)))
        others)
        (cases_rank a b);
    chain = λ a b c first second.
        ⊎_elim
        (λ (b_a : rank b < rank a).
        ⊎_elim
        (λ (c_b : rank c < rank b). greater-by_rank a c (omega arith))
        (λ (c_b : (rank b ≡ rank c) × (next b c ≡ false)). greater-by_rank a c (omega arith))
        (fails-by_rank b c second))
        (λ (b_a : (rank a ≡ rank b) × (next a b ≡ false)).
        ⊎_elim
        (λ (c_b : rank c < rank b). greater-by_rank a c (omega arith))
        (λ (c_b : (rank b ≡ rank c) × (next b c ≡ false)).
        tied-by_rank a c (b_a.0 ∙ c_b.0) ∙ order.chain a b c b_a.1 c_b.1)
        (fails-by_rank b c second))
        (fails-by_rank a b first);
  }

  pub Comparable-by_rank : (a b : X) → (rank a ≡ rank b → Comparable next a b) → Comparable by_rank a b
  Comparable-by_rank a b tied_comparable =
      ⊎_elim
      (λ (less : rank a < rank b). inl (less-by_rank a b less))
      (λ others.
      ⊎_elim
      (λ (tied : rank a ≡ rank b).
      ⊎_elim
      (λ (first : next a b ≡ true). inl (tied-by_rank a b tied ∙ first))
      (λ (second : next b a ≡ true). inr (tied-by_rank b a (sym tied) ∙ second))
      (tied_comparable tied))
      (λ (greater : rank b < rank a). inr (less-by_rank b a greater))
      others)
      (cases_rank a b)

-- ---- the two orders

pub IsStrictWeakOrder-by_node : IsStrictWeakOrder by_node
IsStrictWeakOrder-by_node =
    IsStrictWeakOrder-by_rank (λ i. i.node) (λ a b. nat_lt (index_of a) (index_of b)) (IsStrictWeakOrder-by_number index_of)

pub IsStrictWeakOrder-by_weight : IsStrictWeakOrder by_weight
IsStrictWeakOrder-by_weight = IsStrictWeakOrder-by_rank (λ i. weight_of i.stamp) by_node IsStrictWeakOrder-by_node

-- the intervals of a store can be compared by both
pub Comparable-by_node : (store : StoreRecord) → IsStore store → AllPairs (Comparable by_node) (intervals_of store)
Comparable-by_node store sound i j d less within =
    let all = intervals_of store in
    Comparable-by_rank (λ v. v.node) (λ a b. nat_lt (index_of a) (index_of b)) (get_or all i d) (get_or all j d)
    (λ tied. inl (lt-ltb _ _ (sound.ascending i j d less within tied)))

pub Comparable-by_weight : (store : StoreRecord) → IsStore store → AllPairs (Comparable by_weight) (intervals_of store)
Comparable-by_weight store sound i j d less within =
    let all = intervals_of store in
    Comparable-by_rank (λ v. weight_of v.stamp) by_node (get_or all i d) (get_or all j d)
    (λ _. Comparable-by_node store sound i j d less within)

-- ---- what Rust's comparisons answer

pub is_lt-ordering_then : (a b : ℕ) (rest : Ordering)
    → is_lt (ordering_then (nat_cmp a b) rest) ≡ (nat_lt a b || (eqb a b && is_lt rest))
is_lt-ordering_then a b rest = by_tests (nat_lt a b) (eqb a b)
  where
    by_tests : (less same : Bool)
        → is_lt (ordering_then (cond less Less (cond same Equal Greater)) rest) ≡ (less || (same && is_lt rest))
    by_tests true same = refl
    by_tests false true = refl
    by_tests false false = refl

pub is_lt-nat_cmp : (a b : ℕ) → is_lt (nat_cmp a b) ≡ nat_lt a b
is_lt-nat_cmp a b = by_tests (nat_lt a b) (eqb a b)
  where
    by_tests : (less same : Bool) → is_lt (cond less Less (cond same Equal Greater)) ≡ less
    by_tests true same = refl
    by_tests false true = refl
    by_tests false false = refl

-- ---- what is newer

-- the function gives what is newer, and nothing else is
pub IsNewer-newer_of : (store : StoreRecord) (since upto : List ℕ) → IsStore store
    → IsNewer store since upto (newer_of store since upto)
IsNewer-newer_of store since upto sound =
    IsAscendingPart-ascending_part by_node IsStrictWeakOrder-by_node (is_newer since upto) (intervals_of store)
    (Comparable-by_node store sound)

pub IsNewer-only : (store : StoreRecord) (since upto : List ℕ) (first second : List IntervalRecord)
    → IsNewer store since upto first → IsNewer store since upto second → first ≡ second
IsNewer-only store since upto first second one other =
    IsAscendingPart-only by_node IsStrictWeakOrder-by_node (is_newer since upto) (intervals_of store) first second one other

-- ---- what is missing

-- keys, in the order of Rust's structs
abbrev key_cmp : Key → Key → Ordering
key_cmp a b = ordering_then (nat_cmp a.node b.node) (ordering_then (nat_cmp a.index b.index) (nat_cmp a.page b.page))

-- pairs of weight and key, in the order of Rust's pairs
abbrev pub pair_less : ℕ × Key → ℕ × Key → Bool
pair_less a b =
    is_lt (ordering_then (nat_cmp a.0 b.0) (key_cmp a.1 b.1))

pair_less-ranked : (page : ℕ) (a b : IntervalRecord) → pair_less (ranked page a) (ranked page b) ≡ by_weight a b
pair_less-ranked page a b =
    let wa = weight_of a.stamp in
    let wb = weight_of b.stamp in
    let pages : is_lt (nat_cmp page page) ≡ false = is_lt-nat_cmp page page ∙ le-ltb page page (omega arith) in
    let indices : is_lt (ordering_then (nat_cmp (index_of a) (index_of b)) (nat_cmp page page)) ≡ nat_lt (index_of a) (index_of b) =
    is_lt-ordering_then (index_of a) (index_of b) (nat_cmp page page)
    ∙ ap (λ v. nat_lt (index_of a) (index_of b) || (eqb (index_of a) (index_of b) && v)) pages
    ∙ and_none (nat_lt (index_of a) (index_of b)) (eqb (index_of a) (index_of b)) in
    is_lt-ordering_then wa wb _
    ∙ ap (λ v. nat_lt wa wb || (eqb wa wb && v))
    (is_lt-ordering_then a.node b.node _
    ∙ ap (λ v. nat_lt a.node b.node || (eqb a.node b.node && v)) indices)
  where
    and_none : (x y : Bool) → (x || (y && false)) ≡ x
    and_none true y = refl
    and_none false true = refl
    and_none false false = refl

-- intervals whose pairs ascend do so by weight
IsSortedBy-by_weight : (page : ℕ) (intervals : List IntervalRecord) → IsSortedBy pair_less (map (ranked page) intervals)
    → IsSortedBy by_weight intervals
IsSortedBy-by_weight page intervals sorted k d low high =
    let long : length (map (ranked page) intervals) ≡ length intervals = length-map intervals (ranked page) in
    let next : get_or (map (ranked page) intervals) (k + 1) (ranked page d) ≡ ranked page (get_or intervals (k + 1) d) =
    get_or-map (ranked page) intervals (k + 1) d (ranked page d) high in
    let here : get_or (map (ranked page) intervals) k (ranked page d) ≡ ranked page (get_or intervals k d) =
    get_or-map (ranked page) intervals k d (ranked page d) (omega arith) in
    sym (pair_less-ranked page (get_or intervals (k + 1) d) (get_or intervals k d))
    ∙ ap (λ (r : ℕ × Key). pair_less r (ranked page (get_or intervals k d))) (sym next)
    ∙ ap (λ (r : ℕ × Key). pair_less (get_or (map (ranked page) intervals) (k + 1) (ranked page d)) r) (sym here)
    ∙ sorted k (ranked page d) low (omega arith)

pub IsMissing-from_sort : (store : StoreRecord) (page : ℕ) (since : List ℕ) (found sorted : List (ℕ × Key))
    → IsStore store
    → found ≡ map (ranked page) (filter (is_missing page since) (intervals_of store))
    → IsPermutation found sorted → IsSortedBy pair_less sorted
    → IsMissing store page since (map (λ pair. pair.1) sorted)
IsMissing-from_sort store page since found sorted sound kept moved up =
    let test = is_missing page since in
    let back = IsPermutation-from_map (ranked page) (filter test (intervals_of store)) sorted
    (subst (λ (l : List (ℕ × Key)). IsPermutation l sorted) kept moved) in
    let ascending : IsSortedBy by_weight back.0 =
    IsSortedBy-by_weight page back.0 (subst (λ (l : List (ℕ × Key)). IsSortedBy pair_less l) back.2 up) in (
      back.0,
      IsAscendingPart-from_sort by_weight IsStrictWeakOrder-by_weight test (intervals_of store) back.0
          (Comparable-by_weight store sound) back.1 ascending,
      ap (map (λ (pair : ℕ × Key). pair.1)) back.2 ∙ map-map (ranked page) (λ (pair : ℕ × Key). pair.1) back.0,
    )

-- the function gives what is missing, and nothing else is
pub IsMissing-missing_of : (store : StoreRecord) (page : ℕ) (since : List ℕ) → IsStore store
    → IsMissing store page since (missing_of store page since)
IsMissing-missing_of store page since sound = (
  ascending_part by_weight (is_missing page since) (intervals_of store),
  IsAscendingPart-ascending_part by_weight IsStrictWeakOrder-by_weight (is_missing page since) (intervals_of store)
      (Comparable-by_weight store sound),
  refl,
)

pub IsMissing-only : (store : StoreRecord) (page : ℕ) (since : List ℕ) (first second : List Key)
    → IsMissing store page since first → IsMissing store page since second → first ≡ second
IsMissing-only store page since first second one other =
    let same : one.0 ≡ other.0 =
    IsAscendingPart-only by_weight IsStrictWeakOrder-by_weight (is_missing page since) (intervals_of store) one.0 other.0 one.1 other.1 in
    one.2 ∙ ap (map (key_of page)) same ∙ sym other.2

-- ---- cover

-- an interval that another's stamp covers is lighter
pub by_weight-covered : (earlier later : IntervalRecord) → length earlier.stamp ≡ length later.stamp
    → Covers later.stamp earlier.stamp → earlier.stamp ≢ later.stamp → by_weight earlier later ≡ true
by_weight-covered earlier later long covered differ =
    less-by_rank (λ i. weight_of i.stamp) by_node earlier later
    (weight-covers_strictly later.stamp earlier.stamp (sym long) covered (λ same. differ (sym same)))
