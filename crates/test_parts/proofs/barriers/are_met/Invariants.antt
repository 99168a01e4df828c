use Rattle.std.proofs.Common.{◌≡◌, length}
use Rattle.test_parts.proofs.barriers.are_met.Given as goal

abbrev pub invariant-loop-step : goal.invariant-loop-step
invariant-loop-step l = length l.manager.last ≡ l.nodes
