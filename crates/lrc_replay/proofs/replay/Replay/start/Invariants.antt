use Rattle.std.proofs.Common.{◌≡◌, map, Some}
use Rattle.std.specs.List.{range_with_len}
use Rattle.lrc_protocol.specs.Node.{fresh_node}
use Rattle.lrc_replay.specs.Replays.{nodes_played}
use Rattle.lrc_replay.proofs.replay.Replay.start.Given as goal

-- the nodes so far
abbrev pub invariant-loop-me : goal.invariant-loop-me
invariant-loop-me l = nodes_played l.made.items ≡ map (λ me. Some (fresh_node l.code l.nodes l.options me)) (range_with_len 0 l.me)
