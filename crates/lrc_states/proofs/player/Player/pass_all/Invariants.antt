use Rattle.std.proofs.Common.{◌≡◌, ◌+◌, ℕ, Some, length, take}
use Rattle.std.specs.Prelude.{All}
use Rattle.lrc_private_names.specs.Ways.{IsOnWay}
use Rattle.lrc_protocol.specs.Run.{World, played}
use Rattle.lrc_replay.specs.Acts.{Plan}
use Rattle.lrc_replay.specs.Turns.{turns_from}
use Rattle.lrc_states.specs.Players.{IsPlayer}
use Rattle.lrc_states.proofs.player.Player.pass_all.Given as goal

-- the events so far are played
abbrev pub invariant-loop-event : goal.invariant-loop-event
invariant-loop-event l = record {
  on : All IsOnWay l.self.course.ways.items;
  player : (plan : Plan) (world end : World) (turns : ℕ) → IsPlayer plan world turns l.initial.self → played world l.events ≡ Some end
      → (now : World) × (played world (take l.event-index l.events) ≡ Some now)
      × IsPlayer plan now (turns + length (turns_from (Some world) (take l.event-index l.events))) l.self;
}
