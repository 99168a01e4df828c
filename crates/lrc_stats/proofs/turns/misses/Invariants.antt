use Rattle.std.proofs.Common.{◌≡◌, map, take}
use Rattle.lrc_stats.specs.Turns.{is_miss, turns_with}
use Rattle.lrc_stats.proofs.turns.misses.Given as goal

-- those of the logs so far
abbrev pub invariant-loop-log : goal.invariant-loop-log
invariant-loop-log l = l.count ≡ turns_with is_miss (map (λ log. log.items) (take l.log-index l.logs))
