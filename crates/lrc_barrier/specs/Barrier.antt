-- Barriers with one manager (Keleher, Cox, Dwarkadas and Zwaenepoel 1994): who has arrived, what each node is told at
-- its departure, and who has brought its pages up to date at a collection (Amza et al. 1996).
use Rattle.std.specs.Prelude.{◌≡◌, ℕ, ◌+◌, ◌<◌, ◌≤◌, ◌==◌, ◌&&◌, Bool, true, false, not, List, All, IfSome, length, map, replicate}
use Rattle.std.specs.Prelude.{slice_index_or, slice_set, is_some, if◌then◌else◌, Option, Some, None, Result, Ok, Err}
use Rattle.std.specs.List.{enumerate_from, filter, filter_map, flat_map, fold, list_all, list_any}
use Rattle.lrc_time.specs.Time.{entry, joined, knows, zeros}
use Rattle.lrc_store.specs.Interval.{IntervalRecord, index_of}
use Rattle.lrc_barrier.specs.declared.fault.BarrierFault.{BarrierFault}
use Rattle.lrc_barrier.specs.declared.fault.BarrierFault.TheVariants.{WrongEpisode, Twice}
use Rattle.lrc_barrier.specs.declared.arrival.Arrival.{Arrival}
use Rattle.lrc_barrier.specs.declared.departure.Departure.{Departure}

-- the episodes that are over; for each node its own entry in the time of its newest arrival, 0 before any; the arrivals
-- of the episode under way, by node; and while a collection is under way, which nodes have sent their Clean
pub record ManagerRecord : Type 0 where
  pub done : ℕ
  pub last : List ℕ
  pub arrivals : List (Option Arrival)
  pub cleans : Option (List Bool)

-- an arrival of this node, one of so many: its intervals are its own, and its times have an entry for each node
pub record IsArrival (nodes from : ℕ) (arrival : Arrival) : Type 0 where
  pub counted : length arrival.time ≡ nodes
  pub own : All (λ interval. interval.node ≡ from) arrival.intervals
  pub stamps : All (λ interval. length interval.stamp ≡ nodes) arrival.intervals

-- a departure of one of so many nodes: its times have an entry for each
pub record IsDeparture (nodes : ℕ) (departure : Departure) : Type 0 where
  pub in_range : departure.to < nodes
  pub counted : length departure.time ≡ nodes
  pub stamps : All (λ interval. length interval.stamp ≡ nodes) departure.intervals

-- there are 1 to 16 nodes, and a place for each; what is kept for a node is its own arrival
pub record IsManager (manager : ManagerRecord) : Type 0 where
  pub some : 1 ≤ length manager.last
  pub few : length manager.last ≤ 16
  pub places : length manager.arrivals ≡ length manager.last
  pub cleans : IfSome manager.cleans (λ cleans. length cleans ≡ length manager.last)
  pub kept :
      (node : ℕ) → IfSome (slice_index_or manager.arrivals node None) (IsArrival (length manager.last) node)

-- ---- arrivals

-- at the start no episode is over and nobody has arrived
abbrev pub first_manager : ℕ → ManagerRecord
first_manager nodes = record {
  done = 0;
  last = zeros nodes;
  arrivals = replicate nodes None;
  cleans = None;
}

-- the episode can be arrived at: it is the next one, and no collection is under way
abbrev pub is_next : ManagerRecord → ℕ → Bool
is_next manager episode = (episode == manager.done + 1) && not (is_some manager.cleans)

-- the node has arrived at the episode under way
abbrev pub has_arrived : ManagerRecord → ℕ → Bool
has_arrived manager node = is_some (slice_index_or manager.arrivals node None)

-- the manager with one more arrival
abbrev pub with_arrival : ManagerRecord → ℕ → Arrival → ManagerRecord
with_arrival manager from arrival = record manager {
  last = slice_set manager.last from (entry arrival.time from);
  arrivals = slice_set manager.arrivals from (Some arrival);
}

-- the arrivals, by node
abbrev pub arrivals_of : ManagerRecord → List Arrival
arrivals_of manager = filter_map (λ arrival. arrival) manager.arrivals

-- ---- departures

-- the time of all that arrived
abbrev pub joined_time : ℕ → List Arrival → List ℕ
joined_time nodes arrivals = fold joined (zeros nodes) (map (λ arrival. arrival.time) arrivals)

-- somebody asks for a collection
abbrev pub asks : List Arrival → Bool
asks arrivals = list_any (λ arrival. arrival.ask) arrivals

-- all that arrived, by node and index
abbrev pub intervals_of : List Arrival → List IntervalRecord
intervals_of arrivals = flat_map (λ arrival. arrival.intervals) arrivals

-- the time doesn't know the interval
abbrev pub is_news : List ℕ → IntervalRecord → Bool
is_news time interval = not (knows time interval.node (index_of interval))

-- what one node is told: the time of all, and those of the arrivals' intervals that its own arrival's time didn't know
abbrev pub departure_to : List Arrival → ℕ × Arrival → Departure
departure_to arrivals (to, arrival) = record {
  to = to;
  episode = arrival.episode;
  collect = asks arrivals;
  time = joined_time (length arrival.time) arrivals;
  intervals = filter (is_news arrival.time) (intervals_of arrivals);
}

-- one for each node, from node 0 on
abbrev pub departures_of : List Arrival → List Departure
departures_of arrivals = map (departure_to arrivals) (enumerate_from 0 arrivals)

-- the episode is over; where somebody asked for it a collection begins
abbrev pub departed : ManagerRecord → ManagerRecord
departed manager = record {
  done = manager.done + 1;
  last = manager.last;
  arrivals = replicate (length manager.last) None;
  cleans =
      if asks (arrivals_of manager) then Some (replicate (length manager.last) false) else None;
}

-- ---- what the calls do

-- an arrival is refused, or it waits for others, or it was the last and all depart
pub data ArriveStep : Type 0 where
  refuses : BarrierFault → ArriveStep
  waits : ManagerRecord → ArriveStep
  departs : List Departure → ManagerRecord → ArriveStep

abbrev pub accepted : ManagerRecord → ArriveStep
accepted manager =
    if list_all is_some manager.arrivals
    then departs (departures_of (arrivals_of manager)) (departed manager)
    else waits manager

abbrev pub arrived : ManagerRecord → ℕ → Arrival → ArriveStep
arrived manager from arrival =
    if is_next manager arrival.episode
    then (if has_arrived manager from then refuses Twice else accepted (with_arrival manager from arrival))
    else refuses WrongEpisode

-- a Clean is refused, or others are still to come, or it was the last and all discard
pub data CleanStep : Type 0 where
  refuses_clean : BarrierFault → CleanStep
  awaits : ManagerRecord → CleanStep
  discards : ℕ → ManagerRecord → CleanStep

abbrev pub cleaned_with : ManagerRecord → List Bool → CleanStep
cleaned_with manager cleans =
    if list_all (λ clean. clean) cleans
    then discards manager.done (record manager { cleans = None })
    else awaits (record manager { cleans = Some cleans })

abbrev pub cleaned_by : ManagerRecord → ℕ → ℕ → Option (List Bool) → CleanStep
cleaned_by manager from episode None = refuses_clean WrongEpisode
cleaned_by manager from episode (Some cleans) =
    if episode == manager.done
    then (if slice_index_or cleans from false
    then refuses_clean Twice
    else cleaned_with manager (slice_set cleans from true))
    else refuses_clean WrongEpisode

abbrev pub cleaned : ManagerRecord → ℕ → ℕ → CleanStep
cleaned manager from episode = cleaned_by manager from episode manager.cleans

-- ---- what they answer, and what the manager is afterwards

-- what an arrival is answered where memory is found
abbrev pub arrive_answer : ArriveStep → Result (Option (List Departure)) BarrierFault
arrive_answer (refuses fault) = Err fault
arrive_answer (waits next) = Ok None
arrive_answer (departs departures next) = Ok (Some departures)

abbrev pub after_arrive : ManagerRecord → ArriveStep → ManagerRecord
after_arrive manager (refuses fault) = manager
after_arrive manager (waits next) = next
after_arrive manager (departs departures next) = next

-- the arrival isn't refused for what it says
abbrev pub is_accepted : ArriveStep → Bool
is_accepted (refuses fault) = false
is_accepted (waits next) = true
is_accepted (departs departures next) = true

-- the Clean isn't refused
abbrev pub is_clean : CleanStep → Bool
is_clean (refuses_clean fault) = false
is_clean _ = true

abbrev pub clean_answer : CleanStep → Result (Option ℕ) BarrierFault
clean_answer (refuses_clean fault) = Err fault
clean_answer (awaits next) = Ok None
clean_answer (discards episode next) = Ok (Some episode)

abbrev pub after_clean : ManagerRecord → CleanStep → ManagerRecord
after_clean manager (refuses_clean fault) = manager
after_clean manager (awaits next) = next
after_clean manager (discards episode next) = next
