-- The values are the same, and those so far are less.
use Rattle.std.proofs.Common.{◌≡◌, ◌<◌, ℕ}
use Rattle.std.specs.Prelude.{slice_index_or}
use Rattle.lrc_lazy_known.proofs.word.with_value.Given as goal

abbrev pub invariant-loop-place : goal.invariant-loop-place
invariant-loop-place l = record {
  same : l.values.items ≡ l.initial.values.items;
  less : (k : ℕ) → k < l.place → slice_index_or l.values.items k 0 < l.value;
}
