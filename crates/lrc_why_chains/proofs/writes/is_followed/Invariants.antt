-- It happens before none of those so far.
use Rattle.std.proofs.Common.{ℕ, ◌<◌}
use Rattle.std.specs.Prelude.{IsTrue, slice_index}
use Rattle.lrc_judge.specs.Order.{is_before}
use Rattle.lrc_why_chains.proofs.writes.is_followed.Given as goal

abbrev pub invariant-loop-k : goal.invariant-loop-k
invariant-loop-k l = (m : ℕ) → m < l.k → IsTrue (is_before l.order l.write (slice_index l.others m)) → ⊥
