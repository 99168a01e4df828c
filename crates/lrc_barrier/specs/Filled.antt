-- Arrivals of which one is not kept.
use Rattle.std.specs.Prelude.{ℕ, ◌<◌, List, Option, map, slice_index_or}
use Rattle.std.specs.Option.{unwrap_or}
use Rattle.lrc_barrier.specs.declared.arrival.Arrival.{Arrival}
use Rattle.lrc_barrier.specs.Barrier.{IsArrival}

-- the arrivals that are kept, with the last one in the place that is left
abbrev pub all_with : Arrival → List (Option Arrival) → List Arrival
all_with last kept = map (λ place. unwrap_or place last) kept

-- each is the arrival of the node whose place it has
abbrev pub AreArrivals : ℕ → List Arrival → Type 0
AreArrivals nodes arrivals =
    (node : ℕ) (other : Arrival) → node < nodes → IsArrival nodes node (slice_index_or arrivals node other)
