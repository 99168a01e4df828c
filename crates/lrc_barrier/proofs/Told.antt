-- What departures tell: lemmas of the laws.
use Rattle.std.proofs.Common.{ℕ, suc, ◌≡◌, ◌<◌, ◌∙◌, ◌↔◌, List, [], ◌∷◌, length, map, get_or, ap, sym, subst, zero-add, ⊎_elim, arith}
use Rattle.std.specs.Prelude.{All, Contains, IsTrue}
use Rattle.std.specs.List.{enumerate_from, filter, flat_map, fold}
use Rattle.std.proofs.lemmas.List.{get_or-map, length-map}
use Rattle.std.proofs.lemmas.List.Elements.{Contains-append_left, Contains-append_right, Contains-append_cases}
use Rattle.std.proofs.lemmas.List.Folds.{Any-from_list_any, list_any-from_Any}
use Rattle.std.proofs.lemmas.List.FromFn.{get_or-enumerate_from, length-enumerate_from}
use Rattle.lrc_time.specs.Time.{entry, joined, zeros, Covers}
use Rattle.lrc_time.proofs.Times.{covers-refl, covers-trans, covers-zeros, covers-joined_first, covers-joined_second, covers-joined_least}
use Rattle.lrc_store.specs.Interval.{IntervalRecord, index_of}
use Rattle.lrc_store.proofs.Orders.{Contains-first, Contains-later, cases_Contains, none_Contains, filter-Contains}
use Rattle.lrc_barrier.specs.declared.arrival.Arrival.{Arrival}
use Rattle.lrc_barrier.specs.declared.departure.Departure.{Departure}
use Rattle.lrc_barrier.specs.Barrier.{asks, departure_to, departures_of, intervals_of, is_news, joined_time}
use Rattle.lrc_barrier.proofs.News.{is_news-above, is_news-true}

-- ---- the intervals of all

in_some : {X Y : Type 0} (f : X → List Y) (xs : List X) (y : Y) → Contains (flat_map f xs) y
    → (x : X) × Contains xs x × Contains (f x) y
in_some f [] y there = absurd (none_Contains y there)
in_some f (x ∷ xs) y there =
    ⊎_elim (λ here. (x, Contains-first x xs, here))
    (λ later. let rest = in_some f xs y later in (rest.0, Contains-later x xs rest.0 rest.1, rest.2))
    (Contains-append_cases (f x) (flat_map f xs) y there)

in_all : {X Y : Type 0} (f : X → List Y) (xs : List X) (x : X) (y : Y) → Contains xs x → Contains (f x) y
    → Contains (flat_map f xs) y
in_all f [] x y there within = absurd (none_Contains x there)
in_all f (first ∷ xs) x y there within =
    ⊎_elim
    (λ (same : first ≡ x). Contains-append_left (f first) (flat_map f xs) y (subst (λ z. Contains (f z) y) (sym same) within))
    (λ later. Contains-append_right (f first) (flat_map f xs) y (in_all f xs x y later within))
    (cases_Contains first xs x there)

pub told : (arrivals : List Arrival) (own : Arrival) (interval : IntervalRecord)
    → Contains (filter (is_news own.time) (intervals_of arrivals)) interval
    ↔ (((arrival : Arrival) × Contains arrivals arrival × Contains arrival.intervals interval)
    × (entry own.time interval.node < index_of interval))
told arrivals own interval =
    let both = filter-Contains (is_news own.time) (intervals_of arrivals) interval in (
      λ there.
          let parts = both.0 there in
          (in_some (λ (a : Arrival). a.intervals) arrivals interval parts.0, is_news-above own.time interval parts.1),
      λ parts.
          both.1 (
            in_all (λ (a : Arrival). a.intervals) arrivals parts.0.0 interval parts.0.1 parts.0.2,
            is_news-true own.time interval parts.1,
          ),
    )

pub asked : (arrivals : List Arrival)
    → IsTrue (asks arrivals) ↔ ((arrival : Arrival) × Contains arrivals arrival × IsTrue arrival.ask)
asked arrivals = (
  λ some. let one = Any-from_list_any (λ (a : Arrival). a.ask) arrivals some in (one.1, (one.0, one.2, one.3), one.4),
  λ one. list_any-from_Any (λ (a : Arrival). a.ask) arrivals (one.1.0, one.0, one.1.1, one.1.2, one.2),
)

-- ---- the time of all

keeps : (start : List ℕ) (times : List (List ℕ)) → Covers (fold joined start times) start
keeps start [] = covers-refl start
keeps start (time ∷ times) =
    covers-trans (fold joined (joined start time) times) (joined start time) start (keeps (joined start time) times)
    (covers-joined_first start time)

covers_each : (start : List ℕ) (arrivals : List Arrival) (arrival : Arrival) → Contains arrivals arrival
    → Covers (fold joined start (map (λ (a : Arrival). a.time) arrivals)) arrival.time
covers_each start [] arrival there = absurd (none_Contains arrival there)
covers_each start (first ∷ arrivals) arrival there =
    ⊎_elim
    (λ (same : first ≡ arrival).
    let all = fold joined (joined start first.time) (map (λ (a : Arrival). a.time) arrivals) in
    let at_first : Covers all first.time =
    covers-trans all (joined start first.time) first.time
    (keeps (joined start first.time) (map (λ (a : Arrival). a.time) arrivals)) (covers-joined_second start first.time) in
    subst (λ (a : Arrival). Covers all a.time) same at_first)
    (λ later. covers_each (joined start first.time) arrivals arrival later)
    (cases_Contains first arrivals arrival there)

least : (start time : List ℕ) (arrivals : List Arrival) → Covers time start → All (λ (a : Arrival). Covers time a.time) arrivals
    → Covers time (fold joined start (map (λ (a : Arrival). a.time) arrivals))
least start time [] above all = above
least start time (first ∷ arrivals) above all =
    least (joined start first.time) time arrivals
    (covers-joined_least start first.time time above (all 0 first (omega arith)))
    (λ k d h. all (suc k) d (omega (arith, h)))

pub covers_all : (nodes : ℕ) (arrivals : List Arrival) (arrival : Arrival) → Contains arrivals arrival
    → Covers (joined_time nodes arrivals) arrival.time
covers_all nodes arrivals arrival there = covers_each (zeros nodes) arrivals arrival there

pub covered_by_all : (nodes : ℕ) (arrivals : List Arrival) (time : List ℕ) → All (λ (a : Arrival). Covers time a.time) arrivals
    → Covers time (joined_time nodes arrivals)
covered_by_all nodes arrivals time all = least (zeros nodes) time arrivals (covers-zeros time nodes) all

-- ---- one for each

pub as_many : (arrivals : List Arrival) → length (departures_of arrivals) ≡ length arrivals
as_many arrivals =
    length-map (enumerate_from 0 arrivals) (departure_to arrivals) ∙ length-enumerate_from 0 arrivals

pub one_each : (arrivals : List Arrival) (node : ℕ) (none : Departure) (nobody : Arrival) → node < length arrivals
    → get_or (departures_of arrivals) node none ≡ departure_to arrivals (node, get_or arrivals node nobody)
one_each arrivals node none nobody within =
    get_or-map (departure_to arrivals) (enumerate_from 0 arrivals) node (0, nobody) none
    (omega (arith, within, length-enumerate_from 0 arrivals))
    ∙ ap (departure_to arrivals) (get_or-enumerate_from 0 arrivals node (0, nobody) within
    ∙ ap (λ n. (n, get_or arrivals node nobody)) (zero-add node))
