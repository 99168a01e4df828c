-- What the last arrival does.
use Rattle.std.proofs.Common.{ℕ, suc, ◌≡◌, ◌≢◌, ◌+◌, ◌<◌, ◌∙◌, Bool, true, false, if◌then◌else◌, Option, Some, None, Result, Ok, Err, List, [], ◌∷◌, All}
use Rattle.std.proofs.Common.{IfSome, length, map, set, get_or, replicate, is_some, is_ok, refl, ap, sym, subst, zero-add, ⊎_elim, arith}
use Rattle.std.specs.Result.{IsErrAnd, IfErr}
use Rattle.std.specs.Option.{unwrap_or}
use Rattle.std.specs.List.{enumerate_from, flat_map, fold, list_all, refill}
use Rattle.std.proofs.lemmas.Bool.{cases_eq, true≢false}
use Rattle.std.proofs.lemmas.List.{get_or-map, get_or-set_same, get_or-set_other, length-map, length-set, take-append-le, take_all}
use Rattle.std.proofs.lemmas.List.Elements.{All-append, All-filter, All-map, All-nil}
use Rattle.std.proofs.lemmas.List.FromFn.{get_or-enumerate_from, length-enumerate_from}
use Rattle.std.proofs.lemmas.List.Sums.{AllPass-from_list_all}
use Rattle.lrc_time.specs.Time.{entry, joined, zeros}
use Rattle.lrc_time.proofs.Times.{length-joined_same, length-zeros}
use Rattle.lrc_store.specs.Interval.{IntervalRecord}
use Rattle.lrc_barrier.specs.declared.fault.BarrierFault.{BarrierFault}
use Rattle.lrc_barrier.specs.declared.fault.BarrierFault.TheVariants.{WrongEpisode, Twice}
use Rattle.lrc_barrier.specs.declared.arrival.Arrival.{Arrival}
use Rattle.lrc_barrier.specs.declared.departure.Departure.{Departure}
use Rattle.lrc_barrier.specs.Barrier.{ManagerRecord, ArriveStep, departs, refuses, waits, accepted, is_accepted}
use Rattle.lrc_barrier.specs.Barrier.{arrivals_of, arrived, asks, departed, departure_to, departures_of, has_arrived}
use Rattle.lrc_barrier.specs.Barrier.{intervals_of, is_news, is_next, joined_time, with_arrival, IsArrival, IsDeparture, IsManager}
use Rattle.lrc_barrier.specs.Filled.{all_with, AreArrivals}
use Rattle.lrc_barrier.proofs.Filled.{arrivals_with, filled_at}

-- ---- an arrival that is expected

abbrev expectation : Bool → Bool → Result (Unit {0}) BarrierFault
expectation next here = if next then (if here then Err Twice else Ok tt) else Err WrongEpisode

pub expected : (next here : Bool) → expectation true false ≡ expectation next here
    → (next ≡ true) × (here ≡ false)
expected true false same = (refl, refl)
expected true true same = absurd (true≢false (ap is_ok same))
expected false here same = absurd (true≢false (ap is_ok same))

pub none_here : (place : Option Arrival) → is_some place ≡ false → place ≡ None
none_here None lacks = refl
none_here (Some arrival) lacks = absurd (true≢false lacks)

-- ---- all have arrived

pub all_depart : (manager : ManagerRecord) (from : ℕ) (arrival : Arrival) → from < length manager.arrivals
    → is_next manager arrival.episode ≡ true → has_arrived manager from ≡ false
    → list_all is_some (set manager.arrivals from (Some arrival)) ≡ true
    → arrived manager from arrival
    ≡ departs (departures_of (all_with arrival manager.arrivals)) (departed (with_arrival manager from arrival))
all_depart manager from arrival within next here all =
    let others : arrivals_of (with_arrival manager from arrival) ≡ all_with arrival manager.arrivals =
    arrivals_with arrival manager.arrivals from within (none_here (get_or manager.arrivals from None) here) all in
    rw (next, here, all) (ap (λ arrivals. departs (departures_of arrivals) (departed (with_arrival manager from arrival))) others)

pub all_departed : (manager : ManagerRecord) (from : ℕ) (arrival : Arrival) (own : ℕ) (collect : Bool)
    → own ≡ entry arrival.time from → from < length manager.arrivals
    → has_arrived manager from ≡ false → list_all is_some (set manager.arrivals from (Some arrival)) ≡ true
    → collect ≡ asks (all_with arrival manager.arrivals)
    → record {
      done = manager.done + 1;
      last = set manager.last from own;
      arrivals = replicate (length manager.last) None;
      cleans = if collect then Some (replicate (length manager.last) false) else None;
    }
    ≡ departed (with_arrival manager from arrival)
all_departed manager from arrival own collect own_is within here all collect_is =
    let others : arrivals_of (with_arrival manager from arrival) ≡ all_with arrival manager.arrivals =
    arrivals_with arrival manager.arrivals from within (none_here (get_or manager.arrivals from None) here) all in
    let last = set manager.last from (entry arrival.time from) in
    let after : List ℕ → ℕ → Bool → ManagerRecord =
    λ last n c. record {
      done = manager.done + 1;
      last = last;
      arrivals = replicate n None;
      cleans = if c then Some (replicate n false) else None;
    } in
    ap (λ e. after (set manager.last from e) (length manager.last) collect) own_is
    ∙ ap (λ n. after last n collect) (sym (length-set manager.last from (entry arrival.time from)))
    ∙ ap (after last (length last)) (collect_is ∙ ap asks (sym others))

by_place : (nodes node from : ℕ) (arrival : Arrival) (place : Option Arrival) → IfSome place (IsArrival nodes node)
    → IsArrival nodes from arrival → (is_some place ≡ false → node ≡ from)
    → IsArrival nodes node (unwrap_or place arrival)
by_place nodes node from arrival None kept own last = subst (λ n. IsArrival nodes n arrival) (sym (last refl)) own
by_place nodes node from arrival (Some other) kept own last = kept

pub are_all : (nodes from : ℕ) (arrival : Arrival) (kept : List (Option Arrival)) → length kept ≡ nodes
    → IsArrival nodes from arrival → ((node : ℕ) → IfSome (get_or kept node None) (IsArrival nodes node))
    → list_all is_some (set kept from (Some arrival)) ≡ true
    → AreArrivals nodes (all_with arrival kept)
are_all nodes from arrival kept count own each all node other within =
    let place = get_or kept node None in
    let last : is_some place ≡ false → node ≡ from =
    λ lacks. ⊎_elim (λ (same : node ≡ from). same)
    (λ (differ : node ≢ from).
    let here : is_some (get_or (set kept from (Some arrival)) node None) ≡ true =
    AllPass-from_list_all is_some (set kept from (Some arrival)) all node None
    (omega (arith, within, count, length-set kept from (Some arrival))) in
    let same : get_or (set kept from (Some arrival)) node None ≡ place =
    get_or-set_other kept from node (Some arrival) None differ in
    absurd (true≢false (sym here ∙ ap is_some same ∙ lacks)))
    (cases_eq node from) in
    rw (filled_at arrival kept node None other (omega (arith, within, count)))
    (by_place nodes node from arrival place (each node) own last)

-- ---- what departures are

length-joined_all : (nodes : ℕ) (time : List ℕ) (times : List (List ℕ)) → length time ≡ nodes
    → All (λ other. length other ≡ nodes) times → length (fold joined time times) ≡ nodes
length-joined_all nodes time [] count all = count
length-joined_all nodes time (other ∷ times) count all =
    let first : length other ≡ nodes = all 0 other (omega arith) in
    length-joined_all nodes (joined time other) times (length-joined_same time other (count ∙ sym first) ∙ count)
    (λ k d h. all (suc k) d (omega (arith, h)))

length-joined_time : (nodes : ℕ) (arrivals : List Arrival) → All (λ (a : Arrival). length a.time ≡ nodes) arrivals
    → length (joined_time nodes arrivals) ≡ nodes
length-joined_time nodes arrivals all =
    length-joined_all nodes (zeros nodes) (map (λ (a : Arrival). a.time) arrivals) (length-zeros nodes)
    (All-map (λ (time : List ℕ). length time ≡ nodes) (λ (a : Arrival). a.time) arrivals all)

All-flat_map : {X Y : Type 0} (P : Y → Type 0) (f : X → List Y) (xs : List X) → All (λ x. All P (f x)) xs → All P (flat_map f xs)
All-flat_map P f [] each = All-nil P
All-flat_map P f (x ∷ xs) each =
    All-append P (f x) (flat_map f xs) (each 0 x (omega arith)) (All-flat_map P f xs (λ k d h. each (suc k) d (omega (arith, h))))

nobody : Arrival
nobody = record { episode = 0; ask = false; time = []; intervals = [] }

pub are_departures : (nodes : ℕ) (arrivals : List Arrival) → length arrivals ≡ nodes → AreArrivals nodes arrivals
    → All (IsDeparture nodes) (departures_of arrivals)
are_departures nodes arrivals count are k d h =
    let places = enumerate_from 0 arrivals in
    let long : length places ≡ length arrivals = length-enumerate_from 0 arrivals in
    let inside : k < length places = omega (arith, h, length-map places (departure_to arrivals)) in
    let some : Arrival = get_or arrivals k (nobody) in
    let own : IsArrival nodes k some = are k (nobody) (omega (arith, inside, long, count)) in
    let told : get_or (departures_of arrivals) k d ≡ departure_to arrivals (k, some) =
    get_or-map (departure_to arrivals) places k (0, nobody) d inside
    ∙ ap (departure_to arrivals) (get_or-enumerate_from 0 arrivals k (0, nobody) (omega (arith, inside, long))
    ∙ ap (λ n. (n, some)) (zero-add k)) in
    let times : All (λ (a : Arrival). length a.time ≡ nodes) arrivals =
    λ i a within. (are i a (omega (arith, within, count))).counted in
    let stamps : All (λ (a : Arrival). All (λ (i : IntervalRecord). length i.stamp ≡ nodes) a.intervals) arrivals =
    λ i a within. (are i a (omega (arith, within, count))).stamps in
    rw told (record {
      in_range = omega (arith, inside, long, count);
      counted = rw own.counted (length-joined_time nodes arrivals times);
      stamps =
          All-filter (is_news some.time) (λ (i : IntervalRecord). length i.stamp ≡ nodes) (intervals_of arrivals)
          (All-flat_map (λ (i : IntervalRecord). length i.stamp ≡ nodes) (λ (a : Arrival). a.intervals) arrivals stamps);
    })

-- ---- what an arrival is answered

away : (next here : Bool) (fault : BarrierFault) (step : ArriveStep) → expectation next here ≡ Err fault
    → (if next then (if here then refuses Twice else step) else refuses WrongEpisode) ≡ refuses fault
away true true fault step same = cc
away true false fault step same = absurd (true≢false (ap is_ok same))
away false here fault step same = cc

pub turned_away : (manager : ManagerRecord) (from : ℕ) (arrival : Arrival) (fault : BarrierFault)
    → expectation (is_next manager arrival.episode) (has_arrived manager from) ≡ Err fault → arrived manager from arrival ≡ refuses fault
turned_away manager from arrival fault same =
    away (is_next manager arrival.episode) (has_arrived manager from) fault (accepted (with_arrival manager from arrival)) same

pub others_come : (manager : ManagerRecord) (from : ℕ) (arrival : Arrival)
    → expectation true false ≡ expectation (is_next manager arrival.episode) (has_arrived manager from)
    → list_all is_some (set manager.arrivals from (Some arrival)) ≡ false
    → arrived manager from arrival ≡ waits (with_arrival manager from arrival)
others_come manager from arrival fine all =
    let parts = expected (is_next manager arrival.episode) (has_arrived manager from) fine in
    rw (parts.0, parts.1, all) refl

pub was_last : (manager : ManagerRecord) (from : ℕ) (arrival : Arrival) → IsManager manager → from < length manager.last
    → expectation true false ≡ expectation (is_next manager arrival.episode) (has_arrived manager from)
    → list_all is_some (set manager.arrivals from (Some arrival)) ≡ true
    → arrived manager from arrival
    ≡ departs (departures_of (all_with arrival manager.arrivals)) (departed (with_arrival manager from arrival))
was_last manager from arrival is within fine all =
    let parts = expected (is_next manager arrival.episode) (has_arrived manager from) fine in
    all_depart manager from arrival (omega (arith, within, is.places)) parts.0 parts.1 all

pub one_fault : (step : ArriveStep) (a b : BarrierFault) → step ≡ refuses a → step ≡ refuses b → a ≡ b
one_fault step a b first second = cc

pub none_waits : (step : ArriveStep) (next : ManagerRecord) (fault : BarrierFault) → step ≡ waits next → step ≡ refuses fault → ⊥
none_waits step next fault first second = cc

pub none_departs : (step : ArriveStep) (all : List Departure) (next : ManagerRecord) (fault : BarrierFault)
    → step ≡ departs all next → step ≡ refuses fault → ⊥
none_departs step all next fault first second = cc

pub not_accepted : (step : ArriveStep) (fault : BarrierFault) → step ≡ refuses fault → is_accepted step ≡ true → ⊥
not_accepted step fault first accepts = true≢false (sym accepts ∙ ap is_accepted first)

pub fault_up : {T : Type 0} (r : Result T BarrierFault) (fault : BarrierFault) → IsErrAnd r (λ f. f ≡ fault) → r ≡ Err fault
fault_up (Ok x) fault is = absurd is
fault_up (Err f) fault is = ap Err is

pub fault_is : {T : Type 0} (r : Result T BarrierFault) (P : BarrierFault → Type 0) → IsErrAnd r P → IfErr r P
fault_is (Ok x) P is = tt
fault_is (Err f) P is = is

pub kept_on_err : {T : Type 0} (r : Result T BarrierFault) (P : Type 0) → P → IfErr r (λ _. P)
kept_on_err (Ok x) P holds = tt
kept_on_err (Err f) P holds = holds

-- ---- a manager that keeps an arrival

refilled : {X : Type 0} (xs old : List X) (at : ℕ) (x : X) → old ≡ xs → refill (length xs) xs (set old at x) ≡ set xs at x
refilled xs old at x same =
    let long : length (set old at x) ≡ length xs = length-set old at x ∙ ap length same in
    take-append-le (length xs) (set old at x) _ (omega (arith, long))
    ∙ take_all (length xs) (set old at x) (omega (arith, long))
    ∙ ap (λ l. set l at x) same

pub with_kept : {done : ℕ} {last : List ℕ} {arrivals : List (Option Arrival)} {cleans : Option (List Bool)}
    (manager : ManagerRecord) (from : ℕ) (arrival : Arrival) (place own : ℕ) (last' : List ℕ) (arrivals' : List (Option Arrival))
    → record { done = done; last = last; arrivals = arrivals; cleans = cleans } ≡ manager
    → last' ≡ last → arrivals' ≡ arrivals → place ≡ from → own ≡ entry arrival.time from
    → record {
      done = done;
      last = refill (length last) last (set last' place own);
      arrivals = refill (length arrivals) arrivals (set arrivals' place (Some arrival));
      cleans = cleans;
    }
    ≡ with_arrival manager from arrival
with_kept {done} {last} {arrivals} {cleans} manager from arrival place own last' arrivals' is last_is arrivals_is place_is own_is =
    let make : List ℕ → List (Option Arrival) → ManagerRecord =
    λ l a. record { done = done; last = l; arrivals = a; cleans = cleans } in
    ap (λ l. make l (refill (length arrivals) arrivals (set arrivals' place (Some arrival))))
    (refilled last last' place own last_is ∙ ap (λ n. set last n own) place_is ∙ ap (set last from) own_is)
    ∙ ap (make (set last from (entry arrival.time from)))
    (refilled arrivals arrivals' place (Some arrival) arrivals_is ∙ ap (λ n. set arrivals n (Some arrival)) place_is)
    ∙ ap (λ m. with_arrival m from arrival) is

pub keeps : (manager : ManagerRecord) (from : ℕ) (arrival : Arrival) → IsManager manager → from < length manager.last
    → IsArrival (length manager.last) from arrival → IsManager (with_arrival manager from arrival)
keeps manager from arrival is within own =
    let long : length (set manager.last from (entry arrival.time from)) ≡ length manager.last =
    length-set manager.last from (entry arrival.time from) in
    let arrivals = set manager.arrivals from (Some arrival) in
    let own_here : IfSome (get_or arrivals from None) (IsArrival (length manager.last) from) =
    subst (λ (p : Option Arrival). IfSome p (IsArrival (length manager.last) from))
    (sym (get_or-set_same manager.arrivals from (Some arrival) None (omega (arith, within, is.places)))) own in
    let kept : (node : ℕ) → IfSome (get_or arrivals node None) (IsArrival (length manager.last) node) =
    λ node. ⊎_elim
    (λ (same : node ≡ from). subst (λ k. IfSome (get_or arrivals k None) (IsArrival (length manager.last) k)) (sym same) own_here)
    (λ (differ : node ≢ from).
    subst (λ (p : Option Arrival). IfSome p (IsArrival (length manager.last) node))
    (sym (get_or-set_other manager.arrivals from node (Some arrival) None differ)) (is.kept node))
    (cases_eq node from) in
    record {
      some = omega (arith, is.some, long);
      few = omega (arith, is.few, long);
      places = length-set manager.arrivals from (Some arrival) ∙ is.places ∙ sym long;
      cleans = subst (λ n. IfSome manager.cleans (λ cleans. length cleans ≡ n)) (sym long) is.cleans;
      kept = λ node. subst (λ n. IfSome (get_or arrivals node None) (IsArrival n node)) (sym long) (kept node);
    }
