use Rattle.std.proofs.Common.{◌≡◌, length}
use Rattle.test_parts.proofs.stores.are_met.Given as goal

abbrev pub invariant-loop-step : goal.invariant-loop-step
invariant-loop-step l = (length l.store.last ≡ l.nodes) × (l.store.pages ≡ l.pages)
