use Rattle.std.proofs.Common.{◌≡◌, ℕ, List}
use Rattle.std.specs.Prelude.{Some}
use Rattle.lrc_program.specs.declared.Program.{Program}
use Rattle.lrc_protocol.specs.declared.event.Event.{Event as Step}
use Rattle.lrc_protocol.specs.Node.{OptionsRecord}
use Rattle.lrc_protocol.specs.Run.{World, run_of}
use Rattle.lrc_consistency_laws.proofs.UpToRace.{in_range}
use Rattle.lrc_protocol.proofs.Texts.{text}
use Rattle.lrc_order_laws.proofs.Timed.{synchronized, waits}
use Rattle.lrc_races_trace.specs.declared.event.Event.{Event}
use Rattle.lrc_races_laws.specs.Traces.{Numbers, AreEvents}
use Rattle.lrc_races_laws.proofs.Episodes.{IsRun}
use Rattle.lrc_races_laws.proofs.Racing.{races_forth, races_back, told_of_acts}
use Rattle.lrc_races_laws.proofs.trace_laws.races_of_every_run_are_told.Goals as goal

run_is : (program : Program) (nodes : ℕ) (options : OptionsRecord) (steps : List Step) (world : World) (numbers : Numbers) (events : List Event)
    → run_of program nodes options steps ≡ Some world → AreEvents numbers world.acts events → IsRun numbers nodes world.acts events
run_is program nodes options steps world numbers events e are = record {
  are = are;
  node = in_range (text program nodes options steps world e);
  synchronized = synchronized program nodes options steps world e;
  waits = waits program nodes options steps world e;
}

pub returns-clause-races : goal.returns-clause-races
returns-clause-races c = λ program nodes options steps world numbers events e are i j.
    let run = run_is program nodes options steps world numbers events e are in
    (λ h. races_back numbers nodes world.acts events run i j h, λ h. races_forth numbers nodes world.acts events run i j h)

pub returns-clause-told : goal.returns-clause-told
returns-clause-told c = λ program nodes options steps world numbers events pairs e are told.
    told_of_acts numbers nodes world.acts events (run_is program nodes options steps world numbers events e are) pairs told
