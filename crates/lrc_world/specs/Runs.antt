-- What a run is, in whichever order it goes on, and why there is none.
use Rattle.std.specs.Prelude.{◌≡◌, ◌↔◌, ◌⊎◌, ◌<◌, ◌≤◌, ◌++◌, ℕ, true, List, Some, length}
use Rattle.lrc_program.specs.declared.Program.{Program}
use Rattle.lrc_judge.specs.Races.{AreNamedRaces}
use Rattle.lrc_protocol.specs.declared.event.Event.{Event}
use Rattle.lrc_protocol.specs.Node.{OptionsRecord}
use Rattle.lrc_protocol.specs.Run.{World, run_of, turns_of_logs}
use Rattle.lrc_setting.specs.declared.setting.Setting.{Setting}
use Rattle.lrc_world.specs.declared.keep.Keep.{Keep}
use Rattle.lrc_world.specs.declared.report.TurnFault.{TurnFault}
use Rattle.lrc_world.specs.declared.run.Order.{Order}
use Rattle.lrc_world.specs.declared.run.Order.TheVariants.{Events, Followed, Rounds, Random}
use Rattle.lrc_world.specs.declared.run.Run.{Run}
use Rattle.lrc_world.specs.Driven.{schedule_of}
use Rattle.lrc_world.specs.Led.{Schedule, AreLed, Led, WearsOut}
use Rattle.lrc_world.specs.Origins.{AreOriginsOf}
use Rattle.lrc_world.specs.Promises.{AreKept}
use Rattle.lrc_world.specs.Random.{WanderingWearsOut, wandering}
use Rattle.lrc_world.specs.Report.{AreAll, IsKeptReport, IsOver, IsWornBy, IsWornFault}
use Rattle.lrc_world.specs.Rounds.{RoundsWearOut, schedule_of_rounds}
use Rattle.lrc_node.specs.Options.{options_of}
use Rattle.lrc_world.specs.Turned.{AreAllTurned, AreTurnedFrom, when_all, turned_of}
use Rattle.lrc_world.specs.declared.world.World.{World as Shown}
use Rattle.lrc_world.specs.World.{Shows, starts_of}

-- The events are the first ones of a program's run that is led so. None of them is skipped. Unless there are 100,000,000, of which there
-- are no more, no node is ready and no message in flight after them.
pub record AreLedToEnd (schedule : Schedule) (program : Program) (nodes : ℕ) (options : OptionsRecord) (events : List Event) : Type 0 where
  pub led : AreLed schedule program nodes options events
  pub unskipped : AreAllTurned program nodes options events
  pub few : length events ≤ 100000000
  pub over : length events < 100000000 → AreAll program nodes options events

-- Behind the events before, which leave a program's run at some world, more follow, led so from there on. None of these is skipped. Unless
-- there are 100,000,000 of them, of which there are no more, no node is ready and no message in flight in the end.
pub record AreFollowedToEnd (schedule : Schedule) (program : Program) (nodes : ℕ) (options : OptionsRecord) (before more : List Event) : Type 0 where
  pub start : World
  pub starts : run_of program nodes options before ≡ Some start
  pub end : World
  pub at : schedule.Standing
  pub led : Led schedule start more end at
  pub unskipped : AreTurnedFrom start more
  pub few : length more ≤ 100000000
  pub over : length more < 100000000 → AreAll program nodes options (before ++ more)

-- the events are those before, and behind them such as follow, led so
abbrev pub AreFollowed : Schedule → List Event → Program → ℕ → OptionsRecord → List Event → Type 0
AreFollowed schedule before program nodes options events =
    (more : List Event) × (events ≡ before ++ more) × AreFollowedToEnd schedule program nodes options before more

-- a number or a message becomes too large at one of the events before, or at one of those that follow, led so
abbrev pub WearsOutBehind : Schedule → List Event → Program → ℕ → OptionsRecord → Type 0
WearsOutBehind schedule before program nodes options =
    IsWornBy program nodes options before ⊎ ((start : World) × (run_of program nodes options before ≡ Some start) × WearsOut schedule start)

-- the events of a run in an order: those that are given, those of its rounds, those of its random order, or some that are given and
-- those that follow
abbrev pub AreInOrder : Order → Program → ℕ → OptionsRecord → List Event → Type 0
AreInOrder (Events given) program nodes options events = events ≡ given.now
AreInOrder (Rounds picker) program nodes options events = AreLedToEnd (schedule_of_rounds picker nodes) program nodes options events
AreInOrder (Random seed) program nodes options events = AreLedToEnd (wandering nodes seed) program nodes options events
AreInOrder (Followed given lead) program nodes options events = AreFollowed (schedule_of nodes lead) given.now program nodes options events

-- A run of a program. Its events are as they are to be. The protocol machine makes the same run of them: the report tells its acts, how
-- each node ended, what is kept of the turns, and the first race. The races are those that the acts name. Where all is kept, so are the
-- events that are not skipped, each with the node whose turn it makes; and of each act its turn, its statement, and its node's time just
-- after it. It is over where no node is ready and no message in flight. And it keeps what every run promises: the sequential-consistency
-- theorem is among that.
pub record IsRunBy (AreIts : List Event → Type 0) (program : Program) (nodes : ℕ) (options : OptionsRecord) (keep : Keep) (run : Run) : Type 0 where
  pub events : AreIts run.events.items
  pub made : World
  pub makes : run_of program nodes options run.events.items ≡ Some made
  pub report : IsKeptReport keep run.report made
  pub turned : run.turned.items ≡ when_all keep (turned_of program nodes options run.events.items)
  pub origins : AreOriginsOf keep program nodes (turns_of_logs run.report.logs.items) run.turned.items run.report.acts.items run.origins
  pub races : AreNamedRaces run.report.acts.items run.report.races.items
  pub over : (run.is_over ≡ true) ↔ IsOver made
  pub kept : AreKept program nodes options run.events.items run.report.acts.items run.report.ends.items

-- the same in an order
abbrev pub IsRunIn : Order → Program → ℕ → OptionsRecord → Keep → Run → Type 0
IsRunIn order program nodes options keep run = IsRunBy (AreInOrder order program nodes options) program nodes options keep run

-- in a setting
abbrev pub IsRun : Program → Setting → Order → Keep → Run → Type 0
IsRun program setting order keep run = IsRunIn order program setting.nodes.count (options_of setting) keep run

-- a number or a message becomes too large at one of the events in an order
abbrev pub WearsOutIn : Order → Program → ℕ → OptionsRecord → Type 0
WearsOutIn (Events given) program nodes options = IsWornBy program nodes options given.now
WearsOutIn (Rounds picker) program nodes options = RoundsWearOut program nodes options picker
WearsOutIn (Random seed) program nodes options = WanderingWearsOut program nodes options seed
WearsOutIn (Followed given lead) program nodes options = WearsOutBehind (schedule_of nodes lead) given.now program nodes options

-- a world shows a program's run of these events, and has kept the turns that they made
abbrev pub ShowsRun : Keep → Program → ℕ → OptionsRecord → List Event → Shown → Type 0
ShowsRun keep program nodes options events world =
    (run : World) × (run_of program nodes options events ≡ Some run) × Shows (starts_of program nodes options keep) world run
    × (world.turned.items ≡ when_all keep (turned_of program nodes options events))

-- why there is no run: it wears out so, or memory ran out
abbrev pub IsTurnFault : Program → Setting → Order → TurnFault → Type 0
IsTurnFault program setting order fault = IsWornFault (WearsOutIn order program setting.nodes.count (options_of setting)) fault
