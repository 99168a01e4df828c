-- Each write so far happens before the next.
use Rattle.std.proofs.Common.{ℕ, ◌+◌, ◌<◌}
use Rattle.std.specs.Prelude.{IsTrue, slice_index}
use Rattle.lrc_judge.specs.Order.{is_before}
use Rattle.lrc_why_chains.proofs.writes.first_crossing.Given as goal

abbrev pub invariant-loop-place : goal.invariant-loop-place
invariant-loop-place l = (m : ℕ) → m + 1 < l.place → IsTrue (is_before l.order (slice_index l.writes m) (slice_index l.writes (m + 1)))
