-- What is played, as its functions see it.
use Rattle.std.specs.Prelude.{◌≡◌, ℕ, Option, Some, List, ◌++◌, length, take}
use Rattle.std.specs.Option.{option_to_list}
use Rattle.lrc_program.specs.declared.Program.{Program}
use Rattle.lrc_trace.specs.declared.act.Act.{Act}
use Rattle.lrc_protocol.specs.Node.{OptionsRecord}
use Rattle.lrc_protocol.specs.Run.{World, run_of}
use Rattle.lrc_replay.specs.Replays.{IsReplay}
use Rattle.lrc_exact_events.specs.declared.player.Player.{Player}
use Rattle.lrc_exact_events.specs.Drained.{AreAllDue, IsNext}

-- all stands as in this world
pub record IsPlayer (player : Player) (world : World) : Type 0 where
  pub replay : IsReplay player.replay world
  pub acts : player.acts ≡ length world.acts

-- the next world has the next act of the order more, or no more acts
pub record AddsNext (order : List Act) (world next : World) : Type 0 where
  pub act : Option Act
  pub is : IsNext order (length world.acts) act
  pub acts : next.acts ≡ world.acts ++ option_to_list act

-- the events so far are due, and their run has made the first acts of the order
pub record IsPlaying (program : Program) (nodes : ℕ) (options : OptionsRecord) (order : List Act) (player : Player) : Type 0 where
  pub due : AreAllDue program nodes options order player.events.items
  pub stands : (world : World) → run_of program nodes options player.events.items ≡ Some world → IsPlayer player world
  pub made : (world : World) → run_of program nodes options player.events.items ≡ Some world → world.acts ≡ take (length world.acts) order
