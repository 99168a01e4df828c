-- Every run is a timed run that keeps time, is well synchronized, and waits at barriers: all that holds of such runs holds of it.
use Rattle.std.proofs.Common.{◌≡◌, ℕ}
use Rattle.std.specs.Prelude.{Some, List}
use Rattle.lrc_program.specs.declared.Program.{Program}
use Rattle.lrc_trace.specs.Synchronization.{IsWellSynchronized, WaitsAtBarriers}
use Rattle.lrc_clock.specs.Keeping.{KeepsTime}
use Rattle.lrc_consistency_laws.proofs.Waiting.{waits_at_barriers}
use Rattle.lrc_protocol.specs.declared.event.Event.{Event}
use Rattle.lrc_protocol.specs.Node.{OptionsRecord}
use Rattle.lrc_protocol.specs.Run.{World, run_of}
use Rattle.lrc_protocol.proofs.Texts.{text}
use Rattle.lrc_order_laws.proofs.Departs.{all_departed}
use Rattle.lrc_order_laws.proofs.DepartLine.{all_learn}
use Rattle.lrc_order_laws.proofs.Joining.{keeps_time, is_synchronized}

module _ (program : Program) (nodes : ℕ) (options : OptionsRecord) (events : List Event) (world : World)
    (e : run_of program nodes options events ≡ Some world) where
  pub keeps : KeepsTime nodes world.acts world.times
  keeps = keeps_time program nodes options events world e (all_learn program nodes options events world e)

  pub synchronized : IsWellSynchronized nodes world.acts
  synchronized = is_synchronized program nodes options events world e (all_departed program nodes options events world e)

  pub waits : WaitsAtBarriers world.acts
  waits = waits_at_barriers program nodes world.acts (text program nodes options events world e)
