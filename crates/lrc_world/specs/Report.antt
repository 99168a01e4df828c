-- What is reported of a run.
use Rattle.std.specs.Prelude.{◌≡◌, ◌⊎◌, ◌≤◌, ℕ, false, true, Some, None, List, [], ◌∷◌, ◌++◌, MatchOption, length, map}
use Rattle.std.specs.List.{list_any}
use Rattle.lrc_program.specs.declared.Program.{Program}
use Rattle.lrc_trace.specs.Conflict.{IsFirstRace, IsRaceFree}
use Rattle.lrc_protocol.specs.declared.event.Event.{Event}
use Rattle.lrc_protocol.specs.Node.{OptionsRecord}
use Rattle.lrc_protocol.specs.Turn.{is_ready}
use Rattle.lrc_protocol.specs.Run.{World as Run, event_on, fresh_world, played, run_of, Logged, turns_of_logs}
use Rattle.lrc_trace.specs.declared.end.End.{End}
use Rattle.lrc_control.specs.Text.{end_of}
use Rattle.lrc_world.specs.declared.keep.Keep.{Keep}
use Rattle.lrc_world.specs.declared.report.Report.{Report}
use Rattle.lrc_world.specs.declared.report.SimFault.{SimFault}
use Rattle.lrc_world.specs.declared.report.SimFault.TheVariants as faults
use Rattle.lrc_world.specs.declared.report.TurnFault.{TurnFault}
use Rattle.lrc_world.specs.declared.report.TurnFault.TheVariants.{NoMemory, Worn}
use Rattle.lrc_world.specs.World.{kept_log, sends_long}

-- how a node ended
abbrev pub end_of_logged : Logged → End
end_of_logged l = end_of l.node.course

-- the acts in order, and for each node from 0 up how it ended and its turns; and the first act that races with an earlier one
pub record IsReport (report : Report) (run : Run) : Type 0 where
  pub acts : report.acts.items ≡ run.acts
  pub ends : report.ends.items ≡ map end_of_logged run.nodes
  pub logs : turns_of_logs report.logs.items ≡ map (λ l. l.log) run.nodes
  pub first : MatchOption report.first_race (IsRaceFree run.acts) (IsFirstRace run.acts)

-- a report in which the logs are what is kept of them
pub record IsKeptReport (keep : Keep) (report : Report) (run : Run) : Type 0 where
  pub acts : report.acts.items ≡ run.acts
  pub ends : report.ends.items ≡ map end_of_logged run.nodes
  pub logs : turns_of_logs report.logs.items ≡ map (λ l. kept_log keep l.log) run.nodes
  pub first : MatchOption report.first_race (IsRaceFree run.acts) (IsFirstRace run.acts)

-- At some event from a world on, a number, an interval's index or a stamp would be too large, or a message is longer than may
-- be sent.
pub record IsWornFrom (start : Run) (events : List Event) : Type 0 where
  pub before : List Event
  pub event : Event
  pub after : List Event
  pub run : Run
  pub split : events ≡ before ++ event ∷ after
  pub plays : played start before ≡ Some run
  pub wears : (event_on run event ≡ None) ⊎ ((next : Run) × (event_on run event ≡ Some next) × (sends_long next ≡ true))

-- the same from the beginning of a program on
abbrev pub IsWornBy : Program → ℕ → OptionsRecord → List Event → Type 0
IsWornBy program nodes options events = IsWornFrom (fresh_world program nodes options) events

-- so it is at one of no more than 100,000,000 events of a program
abbrev pub WearsOutEarly : Program → ℕ → OptionsRecord → Type 0
WearsOutEarly program nodes options = (events : List Event) × (length events ≤ 100000000) × IsWornBy program nodes options events

-- the fault of a call that tests its ranges first
abbrev pub of_turns : TurnFault → SimFault
of_turns Worn = faults.Worn
of_turns NoMemory = faults.NoMemory

-- why there is no run: it wears out so, or memory ran out
abbrev pub IsWornFault : (WearsOut : Type 0) → TurnFault → Type 0
IsWornFault WearsOut Worn = WearsOut
IsWornFault WearsOut NoMemory = Unit {0}

-- the report is that of the program's run of these events
abbrev pub IsReportOf : Program → ℕ → OptionsRecord → List Event → Report → Type 0
IsReportOf program nodes options events report = (run : Run) × (run_of program nodes options events ≡ Some run) × IsReport report run

-- no node is ready, and no message is in flight
pub record IsOver (run : Run) : Type 0 where
  pub idle : list_any (λ l. is_ready l.node) run.nodes ≡ false
  pub taken : run.flight ≡ []

-- so it is after these events of a program
abbrev pub AreAll : Program → ℕ → OptionsRecord → List Event → Type 0
AreAll program nodes options events = (run : Run) × (run_of program nodes options events ≡ Some run) × IsOver run
