use Rattle.std.proofs.Common.{◌≡◌, ◌<◌, ℕ, length, get_or}
use Rattle.lrc_trace.specs.Run.{arrives_before, departs_before}
use Rattle.lrc_exact_judge.specs.LookedAt.{IsBetween}
use Rattle.lrc_exact_judge.proofs.looked_at.first_between.Given as goal

-- no node acted at a barrier so far
abbrev pub invariant-loop-position : goal.invariant-loop-position
invariant-loop-position l = record {
  all_arrives : length l.arrives ≡ 16;
  all_departs : length l.departs ≡ 16;
  arrives_are : (q : ℕ) → q < length l.arrives → get_or l.arrives q 0 ≡ arrives_before l.acts q l.position;
  departs_are : (q : ℕ) → q < length l.departs → get_or l.departs q 0 ≡ departs_before l.acts q l.position;
  never : (j : ℕ) → j < l.position → ¬ IsBetween l.acts j;
}
