-- The spots so far have the numbers.
use Rattle.std.proofs.Common.{◌≡◌, ℕ, ◌<◌, length}
use Rattle.std.specs.Prelude.{slice_get, slice_index}
use Rattle.lrc_orders_table.proofs.parts.threads_at.Given as goal

abbrev pub invariant-loop-node : goal.invariant-loop-node
invariant-loop-node l = record {
  count : length l.spots.items ≡ l.node;
  each : (k : ℕ) → k < l.node → slice_get l.threads.keys (slice_index l.numbers k) ≡ slice_get l.spots.items k;
}
