-- Where a run ends whose events are not given.
use Rattle.std.specs.Prelude.{◌<◌, ◌≤◌, ℕ, List, length}
use Rattle.lrc_program.specs.declared.Program.{Program}
use Rattle.lrc_protocol.specs.declared.event.Event.{Event}
use Rattle.lrc_protocol.specs.Node.{OptionsRecord}
use Rattle.lrc_world.specs.Report.{AreAll}

-- There are at most 100,000,000 events, and unless there are so many, no node is ready and no message is in flight after them.
pub record IsEnded (program : Program) (nodes : ℕ) (options : OptionsRecord) (events : List Event) : Type 0 where
  pub few : length events ≤ 100000000
  pub over : length events < 100000000 → AreAll program nodes options events
