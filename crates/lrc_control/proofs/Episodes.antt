-- The episodes of arrivals that are kept, and of departures.
use Rattle.std.proofs.Common.{◌≡◌, ℕ, zero, suc, ◌+◌, ◌≤◌, Bool, true, false, Option, Some, None, List, [], ◌∷◌, length, set, map, replicate, sym, subst}
use Rattle.std.specs.Prelude.{IfSome, All, is_some, if◌then◌else◌, slice_index_or}
use Rattle.std.specs.List.{enumerate_from, filter_map, list_all}
use Rattle.std.specs.Prelude.{Result, Ok, Err, OnOk, OnErr}
use Rattle.lrc_barrier.specs.declared.fault.BarrierFault.{BarrierFault}
use Rattle.lrc_barrier.specs.declared.fault.BarrierFault.TheVariants.{WrongEpisode, Twice}
use Rattle.std.proofs.lemmas.List.Elements.{All-nil, All-cons, All-head, All-tail}
use Rattle.lrc_barrier.specs.declared.arrival.Arrival.{Arrival}
use Rattle.lrc_barrier.specs.declared.departure.Departure.{Departure}
use Rattle.lrc_barrier.specs.Barrier.{ManagerRecord, ArriveStep, refuses, waits, departs, accepted, arrived, arrivals_of, with_arrival, departed}
use Rattle.lrc_barrier.specs.Barrier.{departure_to, departures_of, after_arrive, arrive_answer, is_next, has_arrived, IsDeparture}
use Rattle.lrc_control.specs.Barrier.{KeepsEpisodes, AreDepartures}

-- each place of a list, where one is set
set_begun : (places : List (Option Arrival)) (from node : ℕ) (arrival : Arrival) → 1 ≤ arrival.episode
    → ((k : ℕ) → IfSome (slice_index_or places k None) (λ a. 1 ≤ a.episode))
    → IfSome (slice_index_or (set places from (Some arrival)) node None) (λ a. 1 ≤ a.episode)
set_begun [] from node arrival begun each = each node
set_begun (place ∷ places) zero zero arrival begun each = begun
set_begun (place ∷ places) zero (suc node) arrival begun each = each (suc node)
set_begun (place ∷ places) (suc from) zero arrival begun each = each zero
set_begun (place ∷ places) (suc from) (suc node) arrival begun each = set_begun places from node arrival begun (λ k. each (suc k))

none_begun : (n node : ℕ) → IfSome (slice_index_or (replicate n None) node None) (λ (a : Arrival). 1 ≤ a.episode)
none_begun zero node = tt
none_begun (suc n) zero = tt
none_begun (suc n) (suc node) = none_begun n node

with_begun : (manager : ManagerRecord) (from : ℕ) (arrival : Arrival) → KeepsEpisodes manager → 1 ≤ arrival.episode
    → KeepsEpisodes (with_arrival manager from arrival)
with_begun manager from arrival each begun = λ node. set_begun manager.arrivals from node arrival begun each

-- all that are kept
kept_begun : (places : List (Option Arrival)) → ((k : ℕ) → IfSome (slice_index_or places k None) (λ a. 1 ≤ a.episode))
    → All (λ a. 1 ≤ a.episode) (filter_map (λ arrival. arrival) places)
kept_begun [] each = All-nil (λ (a : Arrival). 1 ≤ a.episode)
kept_begun (None ∷ places) each = kept_begun places (λ k. each (suc k))
kept_begun (Some arrival ∷ places) each =
    All-cons (λ (a : Arrival). 1 ≤ a.episode) arrival (filter_map (λ arrival. arrival) places) (each zero) (kept_begun places (λ k. each (suc k)))

departures_begun : (whole xs : List Arrival) (i : ℕ) → All (λ a. 1 ≤ a.episode) xs
    → All (λ (d : Departure). 1 ≤ d.episode) (map (departure_to whole) (enumerate_from i xs))
departures_begun whole [] i each = All-nil (λ (d : Departure). 1 ≤ d.episode)
departures_begun whole (x ∷ xs) i each =
    All-cons (λ (d : Departure). 1 ≤ d.episode) (departure_to whole (i, x)) (map (departure_to whole) (enumerate_from (i + 1) xs))
    (All-head (λ (a : Arrival). 1 ≤ a.episode) x xs each)
    (departures_begun whole xs (i + 1) (All-tail (λ (a : Arrival). 1 ≤ a.episode) x xs each))

-- what an arrival does at a manager keeps it, and its departures are begun
abbrev pub IsBegun : ManagerRecord → ArriveStep → Type 0
IsBegun manager (refuses fault) = Unit {0}
IsBegun manager (waits next) = KeepsEpisodes next
IsBegun manager (departs departures next) = KeepsEpisodes next × All (λ departure. 1 ≤ departure.episode) departures

accepted_begun : (before manager : ManagerRecord) (all : Bool) → KeepsEpisodes manager
    → IsBegun before (if all then departs (departures_of (arrivals_of manager)) (departed manager) else waits manager)
accepted_begun before manager true each =
    ((λ node. none_begun (length manager.last) node), departures_begun (arrivals_of manager) (arrivals_of manager) 0 (kept_begun manager.arrivals each))
accepted_begun before manager false each = each

refusable : (before manager : ManagerRecord) (twice : Bool) → KeepsEpisodes manager
    → IsBegun before (if twice then refuses Twice else accepted manager)
refusable before manager true each = tt
refusable before manager false each = accepted_begun before manager (list_all is_some manager.arrivals) each

in_time : (before manager : ManagerRecord) (next twice : Bool) → KeepsEpisodes manager
    → IsBegun before (if next then (if twice then refuses Twice else accepted manager) else refuses WrongEpisode)
in_time before manager true twice each = refusable before manager twice each
in_time before manager false twice each = tt

pub arrived_begun : (manager : ManagerRecord) (from : ℕ) (arrival : Arrival) → KeepsEpisodes manager → 1 ≤ arrival.episode
    → IsBegun manager (arrived manager from arrival)
arrived_begun manager from arrival each begun =
    in_time manager (with_arrival manager from arrival) (is_next manager arrival.episode) (has_arrived manager from)
    (with_begun manager from arrival each begun)

-- the manager afterwards
pub after_begun : (manager : ManagerRecord) (step : ArriveStep) → KeepsEpisodes manager → IsBegun manager step → KeepsEpisodes (after_arrive manager step)
after_begun manager (refuses fault) each begun = each
after_begun manager (waits next) each begun = begun
after_begun manager (departs departures next) each begun = begun.0

-- the departures, if it is answered with them
pub answered_begun : (manager : ManagerRecord) (step : ArriveStep) (answer : Option (List Departure)) → IsBegun manager step → arrive_answer step ≡ Ok answer
    → IfSome answer (λ departures. All (λ d. 1 ≤ d.episode) departures)
answered_begun manager (refuses fault) answer begun e = cc
answered_begun manager (waits next) None begun e = tt
answered_begun manager (waits next) (Some departures) begun e = cc
answered_begun manager (departs departures next) None begun e = tt
answered_begun manager (departs departures next) (Some others) begun e =
    let same : departures ≡ others = cc in subst (All (λ (d : Departure). 1 ≤ d.episode)) same begun.1

pub kept_after : (before after : ManagerRecord) (r : Result (Option (List Departure)) BarrierFault) (from : ℕ) (arrival : Arrival)
    → OnOk r (after ≡ after_arrive before (arrived before from arrival)) → OnErr r (after ≡ before) → KeepsEpisodes before → 1 ≤ arrival.episode
    → KeepsEpisodes after
kept_after before after (Ok answer) from arrival ok err each begun =
    subst KeepsEpisodes (sym ok) (after_begun before (arrived before from arrival) each (arrived_begun before from arrival each begun))
kept_after before after (Err fault) from arrival ok err each begun = subst KeepsEpisodes (sym err) each

pub are_departures : (nodes : ℕ) (manager : ManagerRecord) (from : ℕ) (arrival : Arrival) (answer : Option (List Departure)) → length manager.last ≡ nodes
    → KeepsEpisodes manager → 1 ≤ arrival.episode → arrive_answer (arrived manager from arrival) ≡ Ok answer
    → IfSome answer (All (IsDeparture (length manager.last))) → IfSome answer (AreDepartures nodes)
are_departures nodes manager from arrival None of each begun e h = tt
are_departures nodes manager from arrival (Some departures) of each begun e h = record {
  each = subst (λ n. All (IsDeparture n) departures) of h;
  episodes = answered_begun manager (arrived manager from arrival) (Some departures) (arrived_begun manager from arrival each begun) e;
}
