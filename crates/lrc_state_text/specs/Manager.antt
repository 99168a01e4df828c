-- A node's part in barriers.
use Rattle.std.specs.Prelude.{ℕ, Bool, false, Option, None, Some, List, ◌++◌, codes, decimal, filter, length, option_map, slice_index_or}
use Rattle.std.specs.Prelude.{unwrap_or}
use Rattle.std.specs.List.{range_with_len}
use Rattle.lrc_barrier.specs.Barrier.{has_arrived, ManagerRecord}
use Rattle.lrc_protocol.specs.Barriers.{Barrier}
use Rattle.lrc_state_text.specs.Json.{numbers_text}

-- the nodes of the barrier
abbrev pub nodes_of : ManagerRecord → List ℕ
nodes_of manager = range_with_len 0 (length manager.last)

-- those that have arrived at the next episode
abbrev pub arrived_nodes : ManagerRecord → List ℕ
arrived_nodes manager = filter (has_arrived manager) (nodes_of manager)

-- those that have sent their Clean, in a collection
abbrev pub has_cleaned : ManagerRecord → ℕ → Bool
has_cleaned manager node = unwrap_or (option_map (λ cleans. slice_index_or cleans node false) manager.cleans) false

abbrev pub cleaned_nodes : ManagerRecord → List ℕ
cleaned_nodes manager = filter (has_cleaned manager) (nodes_of manager)

unfoldable pub clean_text : Option (List Bool) → (cleaned : List ℕ) → List ℕ
clean_text None cleaned = codes "null"
clean_text (Some cleans) cleaned = numbers_text cleaned

abbrev pub manager_text : ManagerRecord → List ℕ
manager_text manager =
    codes "{\"done\":" ++ decimal manager.done ++ codes ",\"arrived\":" ++ numbers_text (arrived_nodes manager)
    ++ codes ",\"clean\":" ++ clean_text manager.cleans (cleaned_nodes manager) ++ codes "}"

unfoldable pub manager_or_null : Option ManagerRecord → List ℕ
manager_or_null None = codes "null"
manager_or_null (Some manager) = manager_text manager

-- how often the node has arrived, and on node 0 the manager
abbrev pub barrier_members : Barrier → List ℕ
barrier_members barrier =
    codes ",\"episode\":" ++ decimal barrier.episode ++ codes ",\"manager\":" ++ manager_or_null barrier.manager
