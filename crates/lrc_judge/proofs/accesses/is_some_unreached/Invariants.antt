-- No node so far has an access that is not reached.
use Rattle.std.proofs.Common.{ℕ, ◌≢◌, ◌<◌, ◌≤◌, slice_index}
use Rattle.lrc_judge.proofs.accesses.is_some_unreached.Given as goal

abbrev pub invariant-loop-other : goal.invariant-loop-other
invariant-loop-other l = (k : ℕ) → k < l.other → k ≢ l.node → slice_index l.latest k ≤ slice_index l.reach.latest k
