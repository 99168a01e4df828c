-- The outcomes so far are marked, and the others are as they were.
use Rattle.std.proofs.Common.{◌≡◌, ◌<◌, ◌≤◌, ℕ, length}
use Rattle.std.specs.Prelude.{Option, Some, slice_get}
use Rattle.lrc_orders.specs.declared.outcomes.Outcome.{Outcome}
use Rattle.lrc_exact_seeds.specs.Seeds.{IsMarked}
use Rattle.lrc_exact_seeds.proofs.seeds.mark.Given as goal

abbrev pub invariant-loop-place : goal.invariant-loop-place
invariant-loop-place l = record {
  count : length l.seeds.items ≡ length l.initial.seeds.items;
  done : (k : ℕ) (outcome : Outcome) (before after : Option ℕ) → k < l.place → slice_get l.outcomes k ≡ Some outcome
      → slice_get l.initial.seeds.items k ≡ Some before → slice_get l.seeds.items k ≡ Some after → IsMarked outcome l.notes l.seed before after;
  rest : (k : ℕ) → l.place ≤ k → slice_get l.seeds.items k ≡ slice_get l.initial.seeds.items k;
}
