use Rattle.std.proofs.Common.{◌≡◌, ◌++◌, ℕ, take}
use Rattle.lrc_protocol.specs.Run.{World}
use Rattle.lrc_replay.specs.Acts.{Plan}
use Rattle.lrc_text.specs.Each.{each}
use Rattle.lrc_states.specs.Players.{IsPlayer}
use Rattle.lrc_states.specs.States.{first_state}
use Rattle.lrc_states.proofs.player.Player.push_states.Given as goal

-- the states so far
abbrev pub invariant-loop-place : goal.invariant-loop-place
invariant-loop-place l =
    (plan : Plan) (world : World) (turns : ℕ) → IsPlayer plan world turns l.self
    → l.line.items ≡ l.initial.line.items ++ each (first_state plan world.acts) (take l.place world.nodes)
