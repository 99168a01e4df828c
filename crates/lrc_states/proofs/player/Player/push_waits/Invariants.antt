use Rattle.std.proofs.Common.{◌≡◌, ◌++◌, take}
use Rattle.lrc_protocol.specs.Run.{World}
use Rattle.lrc_replay.specs.Replays.{IsReplay}
use Rattle.lrc_text.specs.Each.{each}
use Rattle.lrc_states.specs.Members.{listed_wait}
use Rattle.lrc_states.proofs.player.Player.push_waits.Given as goal

-- the waits so far
abbrev pub invariant-loop-place : goal.invariant-loop-place
invariant-loop-place l =
    (world : World) → IsReplay l.self.replay world → l.line.items ≡ l.initial.line.items ++ each listed_wait (take l.place world.nodes)
