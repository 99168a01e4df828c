use Rattle.lrc_order_laws.proofs.Timed.{synchronized}
use Rattle.lrc_acts_text_laws.proofs.OfRuns.{run_is_of}
use Rattle.lrc_acts_text_laws.proofs.WellFormed.{keeps_accesses, well_formed}
use Rattle.lrc_acts_text_laws.proofs.traces.trace_of_every_run_is_well_formed.Goals as goal

pub returns-clause-well_formed : goal.returns-clause-well_formed
returns-clause-well_formed c = λ program nodes options events world e.
    well_formed program.locks nodes world.acts (run_is_of program nodes options events world e)
    (synchronized program nodes options events world e)

pub returns-clause-accesses : goal.returns-clause-accesses
returns-clause-accesses c = λ program nodes options events world e.
    keeps_accesses program.locks nodes world.acts (run_is_of program nodes options events world e)
