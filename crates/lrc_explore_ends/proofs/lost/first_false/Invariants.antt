-- At the places so far the table says yes.
use Rattle.std.proofs.Common.{◌≡◌, ◌<◌, ℕ, get_or, false, true}
use Rattle.lrc_explore_ends.proofs.lost.first_false.Given as goal

abbrev pub invariant-loop-place : goal.invariant-loop-place
invariant-loop-place l = (k : ℕ) → k < l.place → get_or l.table k false ≡ true
