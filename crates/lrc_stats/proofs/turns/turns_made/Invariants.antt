use Rattle.std.proofs.Common.{◌≡◌, map, take}
use Rattle.lrc_stats.specs.Turns.{turn_count}
use Rattle.lrc_stats.proofs.turns.turns_made.Given as goal

-- the turns of the logs so far
abbrev pub invariant-loop-log : goal.invariant-loop-log
invariant-loop-log l = l.count ≡ turn_count (map (λ log. log.items) (take l.log-index l.logs))
