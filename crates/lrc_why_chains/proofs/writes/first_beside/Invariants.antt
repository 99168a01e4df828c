-- Those so far happen before it.
use Rattle.std.proofs.Common.{ℕ, ◌<◌}
use Rattle.std.specs.Prelude.{IsTrue, slice_index}
use Rattle.lrc_judge.specs.Order.{is_before}
use Rattle.lrc_why_chains.proofs.writes.first_beside.Given as goal

abbrev pub invariant-loop-k : goal.invariant-loop-k
invariant-loop-k l = (m : ℕ) → m < l.k → IsTrue (is_before l.order (slice_index l.writes m) (slice_index l.writes l.place))
