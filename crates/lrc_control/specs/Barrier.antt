-- What comes of an arrival or a Clean at the manager of barriers, beside its node's state.
use Rattle.std.specs.Prelude.{ℕ, Option, Some, None, List, All, IfSome, ◌≤◌, ◌≡◌, length, is_some, slice_index_or, option_map}
use Rattle.lrc_barrier.specs.declared.arrival.Arrival.{Arrival}
use Rattle.lrc_barrier.specs.declared.departure.Departure.{Departure}
use Rattle.lrc_barrier.specs.Barrier.{ManagerRecord, IsDeparture, ArriveStep, refuses, waits, departs, CleanStep, refuses_clean, awaits}
use Rattle.lrc_barrier.specs.Barrier.{discards, arrived, cleaned}
use Rattle.lrc_protocol.specs.Barriers.{Barrier, with_manager}

-- what an arrival is answered, the departures if it was the last, and the barrier then; none where it isn't accepted
abbrev pub arrival_taken : Barrier → Option ArriveStep → Option (Option (List Departure) × Barrier)
arrival_taken barrier None = None
arrival_taken barrier (Some (refuses fault)) = None
arrival_taken barrier (Some (waits manager)) = Some (None, with_manager manager barrier)
arrival_taken barrier (Some (departs departures manager)) = Some (Some departures, with_manager manager barrier)

-- what a Clean is answered, the episode if it was the last, and the barrier then; none where it isn't accepted
abbrev pub clean_taken : Barrier → Option CleanStep → Option (Option ℕ × Barrier)
clean_taken barrier None = None
clean_taken barrier (Some (refuses_clean fault)) = None
clean_taken barrier (Some (awaits manager)) = Some (None, with_manager manager barrier)
clean_taken barrier (Some (discards episode manager)) = Some (Some episode, with_manager manager barrier)

-- the manager, where it is here, is that of so many nodes
abbrev pub IsOfNodes : ℕ → Barrier → Type 0
IsOfNodes nodes barrier = IfSome barrier.manager (λ manager. length manager.last ≡ nodes)

-- the manager is here afterwards exactly where it was, of as many nodes
pub record SameBarrier (before after : Barrier) : Type 0 where
  pub manager : is_some after.manager ≡ is_some before.manager
  pub nodes : (nodes : ℕ) → IsOfNodes nodes before → IsOfNodes nodes after

-- each arrival that the manager keeps is at an episode, which are counted from 1
abbrev pub KeepsEpisodes : ManagerRecord → Type 0
KeepsEpisodes manager = (node : ℕ) → IfSome (slice_index_or manager.arrivals node None) (λ arrival. 1 ≤ arrival.episode)

-- the departures are of an episode, of as many nodes
pub record AreDepartures (nodes : ℕ) (departures : List Departure) : Type 0 where
  pub each : All (IsDeparture nodes) departures
  pub episodes : All (λ departure. 1 ≤ departure.episode) departures

-- what an arrival does at the manager, and none where no manager is
abbrev pub arrive_step : Barrier → ℕ → Arrival → Option ArriveStep
arrive_step barrier from arrival = option_map (λ manager. arrived manager from arrival) barrier.manager

-- what a Clean does at the manager, and none where no manager is
abbrev pub clean_step : Barrier → ℕ → ℕ → Option CleanStep
clean_step barrier from episode = option_map (λ manager. cleaned manager from episode) barrier.manager
