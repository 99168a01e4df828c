-- The spots so far have these numbers, and behind them the numbers are 0.
use Rattle.std.proofs.Common.{◌≡◌, ℕ, ◌<◌, ◌≤◌, length}
use Rattle.std.specs.Prelude.{slice_get, slice_index}
use Rattle.lrc_orders.specs.Kept.{AreSpotsDistinct, Grows}
use Rattle.lrc_lazy_search.proofs.parts.threads_of.Given as goal

abbrev pub invariant-loop-node : goal.invariant-loop-node
invariant-loop-node l = record {
  grows : Grows l.initial.threads.keys l.threads.keys;
  distinct : AreSpotsDistinct l.threads.keys;
  long : length l.numbers ≡ 16;
  each : (k : ℕ) → k < l.node → slice_get l.threads.keys (slice_index l.numbers k) ≡ slice_get l.spots k;
  past : (k : ℕ) → l.node ≤ k → slice_index l.numbers k ≡ 0;
}
