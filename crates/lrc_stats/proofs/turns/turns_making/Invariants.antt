use Rattle.std.proofs.Common.{◌≡◌, map, take}
use Rattle.lrc_stats.specs.Turns.{makes_of_kind, turns_with}
use Rattle.lrc_stats.proofs.turns.turns_making.Given as goal

-- those of the logs so far
abbrev pub invariant-loop-log : goal.invariant-loop-log
invariant-loop-log l = l.count ≡ turns_with (makes_of_kind l.kind) (map (λ log. log.items) (take l.log-index l.logs))
