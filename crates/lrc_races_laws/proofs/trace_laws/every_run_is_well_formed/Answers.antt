use Rattle.lrc_consistency_laws.proofs.UpToRace.{in_range}
use Rattle.lrc_protocol.proofs.Texts.{text}
use Rattle.lrc_order_laws.proofs.Timed.{synchronized, waits}
use Rattle.lrc_acts_text.specs.Rapid.{rapid_of}
use Rattle.lrc_acts_text_laws.proofs.OfRuns.{run_is_of}
use Rattle.lrc_acts_text_laws.proofs.WellFormed.{well_formed}
use Rattle.lrc_races_laws.proofs.Formed.{acts_formed}
use Rattle.lrc_races_laws.proofs.StepDeeds.{deeds_of_steps}
use Rattle.lrc_races_laws.proofs.StepsFormed.{steps_formed}
use Rattle.lrc_races_laws.proofs.trace_laws.every_run_is_well_formed.Goals as goal

pub returns-clause-acts : goal.returns-clause-acts
returns-clause-acts c = λ program nodes options steps world numbers events e are.
    acts_formed numbers nodes world.acts events (record {
      are = are;
      node = in_range (text program nodes options steps world e);
      synchronized = synchronized program nodes options steps world e;
      waits = waits program nodes options steps world e;
    })

pub returns-clause-rapid : goal.returns-clause-rapid
returns-clause-rapid c = λ program nodes options steps world numbers events e are.
    steps_formed numbers (rapid_of program.locks nodes world.acts) events are (deeds_of_steps program.locks nodes world.acts)
    (well_formed program.locks nodes world.acts (run_is_of program nodes options steps world e) (synchronized program nodes options steps world e))
