use Rattle.std.proofs.Common.{◌≡◌, map, take}
use Rattle.lrc_cli_runs.proofs.trace.events_of.Given as goal

-- the events of the turns so far
abbrev pub invariant-loop-turn : goal.invariant-loop-turn
invariant-loop-turn l = l.events.items ≡ map (λ turn. turn.event) (take l.turn-index l.turns)
