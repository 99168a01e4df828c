-- What is played, as its functions see it.
use Rattle.std.specs.Prelude.{◌≡◌, ℕ, length}
use Rattle.lrc_program.specs.declared.Program.{Program}
use Rattle.lrc_lines.specs.Seen.{walks_of}
use Rattle.lrc_lines.specs.Statements.{numbers_of}
use Rattle.lrc_lines.specs.Walks.{end_line, walks_behind}
use Rattle.lrc_protocol.specs.Run.{World}
use Rattle.lrc_replay.specs.Replays.{IsReplay}
use Rattle.lrc_explore_events.specs.declared.player.Player.{Player}

-- all stands as in this world
pub record IsPlayer (program : Program) (nodes : ℕ) (player : Player) (world : World) : Type 0 where
  pub replay : IsReplay player.replay world
  pub walks : walks_of player.walks ≡ walks_behind program nodes (numbers_of program) world.acts
  pub end : player.walks.end ≡ end_line (numbers_of program)
  pub acts : player.acts ≡ length world.acts
