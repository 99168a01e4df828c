use Rattle.lrc_acts_text.specs.Rapid.{rapid_of}
use Rattle.lrc_acts_text_laws.proofs.OfRuns.{run_is_of, order_is}
use Rattle.lrc_acts_text_laws.proofs.WellFormed.{keeps_accesses}
use Rattle.lrc_races_laws.proofs.StepDeeds.{deeds_of_steps}
use Rattle.lrc_races_laws.proofs.StepRaces.{IsTraceOf, told_of_steps}
use Rattle.lrc_races_laws.proofs.trace_laws.races_of_every_rapid_trace_are_told.Goals as goal

pub returns : goal.returns
returns c = λ program nodes options events world numbers trace pairs e are told.
    let is : IsTraceOf nodes world.acts (rapid_of program.locks nodes world.acts) = record {
      deeds = deeds_of_steps program.locks nodes world.acts;
      keeps = keeps_accesses program.locks nodes world.acts (run_is_of program nodes options events world e);
      order = order_is program nodes options events world e;
    } in
    told_of_steps numbers nodes world.acts (rapid_of program.locks nodes world.acts) trace are is pairs told
