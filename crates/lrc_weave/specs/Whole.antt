-- The run that logs make.
use Rattle.std.specs.Prelude.{◌≡◌, ℕ, Some, List, length, map}
use Rattle.lrc_program.specs.declared.Program.{Program}
use Rattle.lrc_trace.specs.declared.act.Act.{Act}
use Rattle.lrc_protocol.specs.declared.event.Event.{Event}
use Rattle.lrc_protocol.specs.Node.{OptionsRecord}
use Rattle.lrc_protocol.specs.Run.{EntryRecord, World, run_of}

-- The run of these events of a program has just these logs. It makes these acts, and so many messages are in flight after it.
pub record MakesRun (program : Program) (nodes : ℕ) (options : OptionsRecord) (logs : List (List EntryRecord)) (events : List Event) (acts : List Act)
    (in_flight : ℕ) : Type 0 where
  pub world : World
  pub runs : run_of program nodes options events ≡ Some world
  pub logs_are : map (λ l. l.log) world.nodes ≡ logs
  pub acts_are : world.acts ≡ acts
  pub flight : length world.flight ≡ in_flight
