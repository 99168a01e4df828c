-- The manager of barriers keeps its number of nodes.
use Rattle.std.proofs.Common.{◌≡◌, ℕ, List, Bool, true, false, length, refl, sym, ap, ◌∙◌}
use Rattle.std.specs.Prelude.{Option, Some, None, is_some, slice_set, slice_index_or, ◌==◌, if◌then◌else◌}
use Rattle.std.specs.List.{list_all}
use Rattle.std.proofs.lemmas.List.{length-set}
use Rattle.lrc_barrier.specs.declared.arrival.Arrival.{Arrival}
use Rattle.lrc_barrier.specs.declared.fault.BarrierFault.TheVariants.{WrongEpisode, Twice}
use Rattle.lrc_barrier.specs.Barrier.{ManagerRecord, ArriveStep, refuses, waits, departs, arrived, accepted, with_arrival, departed, departures_of}
use Rattle.lrc_barrier.specs.Barrier.{arrivals_of, is_next, has_arrived, after_arrive, CleanStep, refuses_clean, awaits, discards, cleaned, cleaned_by}
use Rattle.lrc_barrier.specs.Barrier.{cleaned_with, after_clean}

-- what was accepted goes on with the manager that has one more arrival
arrived_by : (manager : ManagerRecord) (from : ℕ) (arrival : Arrival) (next here : Bool)
    → length (after_arrive manager (if next then (if here then refuses Twice else accepted (with_arrival manager from arrival)) else refuses WrongEpisode)).last
    ≡ length manager.last
arrived_by manager from arrival false here = refl
arrived_by manager from arrival true true = refl
arrived_by manager from arrival true false = arrived_more (list_all is_some (with_arrival manager from arrival).arrivals)
  where
    arrived_more : (b : Bool)
        → length
        (after_arrive manager
        (if b then departs (departures_of (arrivals_of (with_arrival manager from arrival))) (departed (with_arrival manager from arrival)) else waits
        (with_arrival manager from arrival))).last
        ≡ length manager.last
    arrived_more true = length-set manager.last from _
    arrived_more false = length-set manager.last from _

-- after an arrival, and after a word that a node is clean
pub arrival-many : (manager : ManagerRecord) (from : ℕ) (arrival : Arrival) (step : ArriveStep) → arrived manager from arrival ≡ step
    → length (after_arrive manager step).last ≡ length manager.last
arrival-many manager from arrival step e =
    ap (λ s. length (after_arrive manager s).last) (sym e)
    ∙ arrived_by manager from arrival (is_next manager arrival.episode) (has_arrived manager from)

with-many : (manager : ManagerRecord) (cleans : List Bool) (b : Bool)
    → length (after_clean manager (if b then discards manager.done (record manager { cleans = None }) else awaits
    (record manager { cleans = Some cleans }))).last ≡ length manager.last
with-many manager cleans true = refl
with-many manager cleans false = refl

by-many : (manager : ManagerRecord) (from : ℕ) (cleans : List Bool) (same twice : Bool)
    → length (after_clean manager (if same then (if twice then refuses_clean Twice else cleaned_with manager
    (slice_set cleans from true)) else refuses_clean WrongEpisode)).last
    ≡ length manager.last
by-many manager from cleans false twice = refl
by-many manager from cleans true true = refl
by-many manager from cleans true false = with-many manager (slice_set cleans from true) (list_all (λ clean. clean) (slice_set cleans from true))

cleaned-many : (manager : ManagerRecord) (from episode : ℕ) (cleans : Option (List Bool))
    → length (after_clean manager (cleaned_by manager from episode cleans)).last ≡ length manager.last
cleaned-many manager from episode None = refl
cleaned-many manager from episode (Some cleans) = by-many manager from cleans (episode == manager.done) (slice_index_or cleans from false)

pub clean-many : (manager : ManagerRecord) (from episode : ℕ) (step : CleanStep) → cleaned manager from episode ≡ step
    → length (after_clean manager step).last ≡ length manager.last
clean-many manager from episode step e =
    ap (λ s. length (after_clean manager s).last) (sym e) ∙ cleaned-many manager from episode manager.cleans
