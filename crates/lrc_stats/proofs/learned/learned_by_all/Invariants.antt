use Rattle.std.proofs.Common.{◌≡◌, map, take}
use Rattle.lrc_stats.specs.Learned.{learned_intervals, learned_notices, repeats}
use Rattle.lrc_stats.proofs.learned.learned_by_all.Given as goal

-- what the logs so far say
abbrev pub invariant-loop-log : goal.invariant-loop-log
invariant-loop-log l = record {
  repeats : l.all.repeats ≡ repeats (map (λ log. log.items) (take l.log-index l.logs));
  intervals : l.all.intervals ≡ learned_intervals (map (λ log. log.items) (take l.log-index l.logs));
  notices : l.all.notices ≡ learned_notices (map (λ log. log.items) (take l.log-index l.logs));
}
