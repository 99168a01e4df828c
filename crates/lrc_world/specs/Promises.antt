-- What every run promises.
use Rattle.std.specs.Prelude.{◌≡◌, ℕ, false, Some, List}
use Rattle.lrc_program.specs.declared.Program.{Program}
use Rattle.lrc_trace.specs.declared.act.Act.{Act}
use Rattle.lrc_trace.specs.Conflict.{IsRaceFree, IsFirstRace}
use Rattle.lrc_trace.specs.Reading.{ReadsLazily}
use Rattle.lrc_trace.specs.Synchronization.{IsWellSynchronized}
use Rattle.lrc_exec.specs.Plain.{plain}
use Rattle.lrc_exec.specs.Follows.{nodes_of_acts}
use Rattle.lrc_consistency_laws.specs.Racing.{HasNoRace, PlainToRace}
use Rattle.lrc_trace.specs.declared.end.End.{End}
use Rattle.lrc_protocol.specs.declared.event.Event.{Event}
use Rattle.lrc_protocol.specs.Node.{OptionsRecord}
use Rattle.lrc_protocol.specs.Run.{World as Run, run_of}
use Rattle.lrc_world.specs.Ends.{ends_of}
use Rattle.lrc_world.specs.Moments.{AreCovered, HasEachToken, RefusesNone, Throughout}
use Rattle.lrc_world.specs.World.{sends_long}

-- The sequential-consistency theorem, of a run's acts in their order. They are well synchronized, and each node reads what was written
-- last by what happens before. Where no two conflicting accesses are unordered, the plain machine makes the same acts; every run is plain
-- up to its first race; and where no order gives the plain machine a race, the run has none.
pub record IsConsistent (program : Program) (nodes : ℕ) (acts : List Act) : Type 0 where
  pub synchronized : IsWellSynchronized nodes acts
  pub lazy : ReadsLazily acts
  pub consistent : IsRaceFree acts → plain program nodes (nodes_of_acts acts) ≡ Some acts
  pub first : (position : ℕ) → IsFirstRace acts position → PlainToRace program nodes acts position
  pub unraced : HasNoRace program nodes → IsRaceFree acts

-- A program's run of some events makes these acts, and so its nodes end. At each moment each message in flight is from one of the nodes
-- and for one of them, which does not refuse it, and each lock's token is in one place; and at each access the node's time knows just
-- what happens before it. No turn of the run sends a message that is too long. The theorem holds of the acts.
pub record AreKept (program : Program) (nodes : ℕ) (options : OptionsRecord) (events : List Event) (acts : List Act) (ends : List End) : Type 0 where
  pub ended : ends ≡ ends_of nodes acts
  pub accepted : Throughout program nodes options events RefusesNone
  pub tokens : Throughout program nodes options events (HasEachToken program.locks)
  pub covered : (run : Run) → run_of program nodes options events ≡ Some run → AreCovered acts run.times
  pub short : (run : Run) → run_of program nodes options events ≡ Some run → sends_long run ≡ false
  pub theorem : IsConsistent program nodes acts
