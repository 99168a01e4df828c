-- Lemmas on arrivals of which one is not kept.
use Rattle.std.proofs.Common.{ℕ, ◌≡◌, ◌≢◌, ◌+◌, ◌<◌, ◌∙◌, Bool, true, false, Option, Some, None, List, [], ◌∷◌, ◌++◌, length, map, take}
use Rattle.std.proofs.Common.{append-nil, subst, zero-add, set, get_or, is_some, refl, ap, sym, ⊎_elim, arith}
use Rattle.std.specs.Option.{unwrap_or}
use Rattle.std.specs.List.{enumerate_from, filter, filter_map, fold, list_all, list_any}
use Rattle.std.proofs.lemmas.Bool.{cases_eq, true≢false}
use Rattle.std.proofs.lemmas.List.{take_more, get_or_default, get_or-map, map-append, map-set, set-get_or}
use Rattle.std.proofs.lemmas.List.{get_or-set_other, get_or-set_same, length-map, length-set, length-take-le}
use Rattle.std.proofs.lemmas.List.Sums.{fold_push, list_all-from_AllPass}
use Rattle.std.proofs.lemmas.Grind.{flat_map-append}
use Rattle.std.proofs.lemmas.List.Folds.{list_all_at, list_any_none, list_any-from_Any}
use Rattle.lrc_time.specs.Time.{joined, zeros}
use Rattle.lrc_page.proofs.ChangeLists.{enumerate_from-push}
use Rattle.lrc_store.specs.Interval.{IntervalRecord}
use Rattle.lrc_barrier.specs.declared.arrival.Arrival.{Arrival}
use Rattle.lrc_barrier.specs.declared.departure.Departure.{Departure}
use Rattle.lrc_barrier.specs.Barrier.{asks, departure_to, intervals_of, is_news, joined_time, IsArrival}
use Rattle.lrc_barrier.specs.Filled.{all_with, AreArrivals}

-- ---- one arrival more

pub asks_all_with : (last : Arrival) (kept : List (Option Arrival))
    → asks (all_with last kept) ≡ list_any (λ place. (unwrap_or place last).ask) kept
asks_all_with last [] = refl
asks_all_with last (place ∷ kept) = rw (asks_all_with last kept) refl

pub asks_none : (last : Arrival) (kept : List (Option Arrival))
    → ((k : ℕ) (d : Option Arrival) → k < length kept → (unwrap_or (get_or kept k d) last).ask ≡ false)
    → asks (all_with last kept) ≡ false
asks_none last kept none =
    asks_all_with last kept ∙ list_any_none (λ place. (unwrap_or place last).ask) kept none

pub asks_one : (last : Arrival) (kept : List (Option Arrival)) (k : ℕ) (place : Option Arrival)
    → k < length kept → place ≡ get_or kept k place → (unwrap_or place last).ask ≡ true
    → asks (all_with last kept) ≡ true
asks_one last kept k place within place_is ask =
    asks_all_with last kept
    ∙ list_any-from_Any (λ place. (unwrap_or place last).ask) kept (k, place, within, sym place_is, ask)

pub filled_at : (last : Arrival) (kept : List (Option Arrival)) (k : ℕ) (d : Option Arrival) (e : Arrival)
    → k < length kept → get_or (all_with last kept) k e ≡ unwrap_or (get_or kept k d) last
filled_at last kept k d e within = get_or-map (λ place. unwrap_or place last) kept k d e within

pub filled_more : (last : Arrival) (kept : List (Option Arrival)) (k : ℕ) (d : Option Arrival) → k < length kept
    → all_with last (take (k + 1) kept) ≡ all_with last (take k kept) ++ unwrap_or (get_or kept k d) last ∷ []
filled_more last kept k d within =
    ap (all_with last) (take_more kept k d within)
    ∙ map-append (λ place. unwrap_or place last) (take k kept) (get_or kept k d ∷ [])

pub joined_more : (nodes : ℕ) (arrivals : List Arrival) (next : Arrival)
    → joined_time nodes (arrivals ++ next ∷ []) ≡ joined (joined_time nodes arrivals) next.time
joined_more nodes arrivals next =
    ap (fold joined (zeros nodes)) (map-append (λ (a : Arrival). a.time) arrivals (next ∷ []))
    ∙ fold_push joined (zeros nodes) (map (λ (a : Arrival). a.time) arrivals) next.time

pub intervals_more : (arrivals : List Arrival) (next : Arrival)
    → intervals_of (arrivals ++ next ∷ []) ≡ intervals_of arrivals ++ next.intervals
intervals_more arrivals next =
    flat_map-append (λ (a : Arrival). a.intervals) arrivals (next ∷ [])
    ∙ ap (λ rest. intervals_of arrivals ++ rest) (append-nil next.intervals)

-- an arrival that is kept, or the last one
pub is_at : (last : Arrival) (kept : List (Option Arrival)) (k : ℕ) (place : Option Arrival) (arrival e : Arrival)
    → k < length kept → place ≡ get_or kept k place → arrival ≡ unwrap_or place last
    → arrival ≡ get_or (all_with last kept) k e
is_at last kept k place arrival e within place_is arrival_is =
    arrival_is ∙ ap (λ p. unwrap_or p last) place_is ∙ sym (filled_at last kept k place e within)

pub is_arrival_at : (nodes : ℕ) (last : Arrival) (kept : List (Option Arrival)) (k : ℕ) (place : Option Arrival)
    (arrival : Arrival) → nodes ≡ length kept → AreArrivals nodes (all_with last kept)
    → k < length kept → place ≡ get_or kept k place → arrival ≡ unwrap_or place last
    → IsArrival nodes k arrival
is_arrival_at nodes last kept k place arrival count are within place_is arrival_is =
    subst (IsArrival nodes k) (sym (is_at last kept k place arrival last within place_is arrival_is))
    (are k last (omega (arith, count, within)))

pub time_more : (nodes : ℕ) (last : Arrival) (kept : List (Option Arrival)) (k : ℕ) (place : Option Arrival)
    (arrival : Arrival) (time next : List ℕ)
    → k < length kept → place ≡ get_or kept k place → arrival ≡ unwrap_or place last
    → time ≡ joined_time nodes (all_with last (take k kept)) → next ≡ joined time arrival.time
    → next ≡ joined_time nodes (all_with last (take (k + 1) kept))
time_more nodes last kept k place arrival time next within place_is arrival_is time_is next_is =
    next_is ∙ ap (λ t. joined t arrival.time) time_is
    ∙ ap (λ (a : Arrival). joined (joined_time nodes (all_with last (take k kept))) a.time)
    (arrival_is ∙ ap (λ p. unwrap_or p last) place_is)
    ∙ sym (joined_more nodes (all_with last (take k kept)) (unwrap_or (get_or kept k place) last))
    ∙ ap (joined_time nodes) (sym (filled_more last kept k place within))

pub news_more : (last : Arrival) (kept : List (Option Arrival)) (k : ℕ) (place : Option Arrival) (arrival : Arrival)
    → k < length kept → place ≡ get_or kept k place → arrival ≡ unwrap_or place last
    → intervals_of (all_with last (take (k + 1) kept)) ≡ intervals_of (all_with last (take k kept)) ++ arrival.intervals
news_more last kept k place arrival within place_is arrival_is =
    ap intervals_of (filled_more last kept k place within)
    ∙ intervals_more (all_with last (take k kept)) (unwrap_or (get_or kept k place) last)
    ∙ ap (λ (a : Arrival). intervals_of (all_with last (take k kept)) ++ a.intervals)
    (sym (arrival_is ∙ ap (λ p. unwrap_or p last) place_is))

pub length_all_with : (last : Arrival) (kept : List (Option Arrival)) → length (all_with last kept) ≡ length kept
length_all_with last kept = length-map kept (λ place. unwrap_or place last)

length_taken : (last : Arrival) (kept : List (Option Arrival)) (k : ℕ) → k < length kept
    → length (all_with last (take k kept)) ≡ k
length_taken last kept k within =
    length_all_with last (take k kept) ∙ length-take-le k kept (omega (arith, within))

pub departures_more : (last : Arrival) (kept : List (Option Arrival)) (k : ℕ) (place : Option Arrival) (arrival : Arrival)
    (items next : List Departure) (departure : Departure)
    → k < length kept → place ≡ get_or kept k place → arrival ≡ unwrap_or place last
    → items ≡ map (departure_to (all_with last kept)) (enumerate_from 0 (all_with last (take k kept)))
    → departure ≡ departure_to (all_with last kept) (k, arrival)
    → next ≡ items ++ departure ∷ []
    → next ≡ map (departure_to (all_with last kept)) (enumerate_from 0 (all_with last (take (k + 1) kept)))
departures_more last kept k place arrival items next departure within place_is arrival_is items_is departure_is next_is =
    let told = departure_to (all_with last kept) in
    let before = all_with last (take k kept) in
    let count : 0 + length before ≡ k = zero-add (length before) ∙ length_taken last kept k within in
    let taken : all_with last (take (k + 1) kept) ≡ before ++ arrival ∷ [] =
    filled_more last kept k place within
    ∙ ap (λ a. before ++ a ∷ []) (sym (arrival_is ∙ ap (λ p. unwrap_or p last) place_is)) in
    next_is ∙ ap (λ d. items ++ d ∷ []) departure_is ∙ ap (λ xs. xs ++ told (k, arrival) ∷ []) items_is
    ∙ sym (ap (λ xs. map told (enumerate_from 0 xs)) taken
    ∙ ap (map told) (enumerate_from-push 0 before arrival)
    ∙ map-append told (enumerate_from 0 before) ((0 + length before, arrival) ∷ [])
    ∙ ap (λ n. map told (enumerate_from 0 before) ++ told (n, arrival) ∷ []) count)

pub told_to : (nodes : ℕ) (arrivals : List Arrival) (to : ℕ) (arrival : Arrival) (collect : Bool) (time : List ℕ)
    (intervals : List IntervalRecord) → length arrival.time ≡ nodes → collect ≡ asks arrivals
    → time ≡ joined_time nodes arrivals → intervals ≡ filter (is_news arrival.time) (intervals_of arrivals)
    → record { to = to; episode = arrival.episode; collect = collect; time = time; intervals = intervals }
    ≡ departure_to arrivals (to, arrival)
told_to nodes arrivals to arrival collect time intervals counted collect_is time_is intervals_is =
    let with : Bool → List ℕ → List IntervalRecord → Departure =
    λ c t i. record { to = to; episode = arrival.episode; collect = c; time = t; intervals = i } in
    ap (λ c. with c time intervals) collect_is
    ∙ ap (λ t. with (asks arrivals) t intervals) (time_is ∙ ap (λ n. joined_time n arrivals) (sym counted))
    ∙ ap (λ i. with (asks arrivals) (joined_time (length arrival.time) arrivals) i) intervals_is

-- ---- all have arrived

pub all_but_one : (arrival : Arrival) (kept : List (Option Arrival)) (from : ℕ) → from < length kept
    → ((k : ℕ) → k < length kept → k ≢ from → is_some (get_or kept k None) ≡ true)
    → list_all is_some (set kept from (Some arrival)) ≡ true
all_but_one arrival kept from within others =
    list_all-from_AllPass is_some (set kept from (Some arrival)) (λ k d h.
    ⊎_elim
    (λ (same : k ≡ from). rw (same, get_or-set_same kept from (Some arrival) d within) refl)
    (λ (other : k ≢ from).
    let inside : k < length kept = omega (arith, h, length-set kept from (Some arrival)) in
    rw (get_or-set_other kept from k (Some arrival) d other, get_or_default kept k d None inside) (others k inside other))
    (cases_eq k from))

pub one_lacks : (arrival : Arrival) (kept : List (Option Arrival)) (from k : ℕ) (place : Option Arrival) → k < length kept → k ≢ from
    → place ≡ get_or kept k place → is_some place ≡ false
    → list_all is_some (set kept from (Some arrival)) ≡ false
one_lacks arrival kept from k place within other place_is lacks =
    list_all_at is_some (set kept from (Some arrival)) k place (omega (arith, within, length-set kept from (Some arrival)))
    (rw (get_or-set_other kept from k (Some arrival) place other, ← place_is) lacks)

pub all_arrived : (last : Arrival) (places : List (Option Arrival)) → list_all is_some places ≡ true
    → filter_map (λ arrival. arrival) places ≡ map (λ place. unwrap_or place last) places
all_arrived last [] all = refl
all_arrived last (None ∷ places) all = absurd (true≢false (sym all))
all_arrived last (Some arrival ∷ places) all = ap (λ rest. arrival ∷ rest) (all_arrived last places all)

-- the manager's arrivals with the last one are those that are kept and the last one
pub arrivals_with : (last : Arrival) (kept : List (Option Arrival)) (from : ℕ) → from < length kept
    → get_or kept from None ≡ None → list_all is_some (set kept from (Some last)) ≡ true
    → filter_map (λ arrival. arrival) (set kept from (Some last)) ≡ all_with last kept
arrivals_with last kept from within free all =
    all_arrived last (set kept from (Some last)) all
    ∙ map-set (λ place. unwrap_or place last) kept from (Some last)
    ∙ ap (λ a. set (all_with last kept) from a) (sym (filled_at last kept from None last within ∙ ap (λ place. unwrap_or place last) free))
    ∙ set-get_or (all_with last kept) from last
