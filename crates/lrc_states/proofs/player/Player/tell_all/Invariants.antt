use Rattle.std.proofs.Common.{◌≡◌, ◌≤◌, ◌+◌, ℕ, Some, length}
use Rattle.std.specs.Prelude.{All}
use Rattle.lrc_private_names.specs.Ways.{IsOnWay}
use Rattle.lrc_protocol.specs.Run.{World, played}
use Rattle.lrc_replay.specs.Acts.{Plan}
use Rattle.lrc_states.specs.Players.{IsPlayer}
use Rattle.lrc_states.specs.States.{most_turns}
use Rattle.lrc_states.proofs.Lines.{IsTold}
use Rattle.lrc_states.proofs.player.Player.tell_all.Given as goal

-- the events so far are played, and their turns are told
abbrev pub invariant-loop-event : goal.invariant-loop-event
invariant-loop-event l = record {
  on : All IsOnWay l.self.course.ways.items;
  few : length l.parts.items ≤ most_turns + 1;
  told : (plan : Plan) (world end : World) (turns : ℕ) → IsPlayer plan world turns l.initial.self → played world l.events ≡ Some end
      → IsTold plan l.telling world turns l.to l.events l.event-index l.initial.parts.items l.parts.items l.self;
}
