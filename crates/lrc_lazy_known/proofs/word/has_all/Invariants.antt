-- Of the values so far found, each stands in the list.
use Rattle.std.proofs.Common.{◌≤◌, ℕ, length}
use Rattle.std.specs.Prelude.{Contains}
use Rattle.lrc_lazy_known.proofs.Made.{IsAmong}
use Rattle.lrc_lazy_known.proofs.word.has_all.Given as goal

abbrev pub invariant-loop-value : goal.invariant-loop-value
invariant-loop-value l = record {
  within : l.found ≤ length l.values;
  has : (v : ℕ) → IsAmong l.values l.found v → Contains l.list v;
}
