-- What was added so far.
use Rattle.std.proofs.Common.{◌≡◌}
use Rattle.std.specs.Prelude.{filter}
use Rattle.std.specs.List.{range_with_len}
use Rattle.lrc_barrier.specs.Barrier.{has_arrived}
use Rattle.lrc_state_text.proofs.manager.arrived_nodes.Given as goal

abbrev pub invariant-loop-node : goal.invariant-loop-node
invariant-loop-node l = l.arrived.items ≡ filter (has_arrived l.manager) (range_with_len 0 l.node)
