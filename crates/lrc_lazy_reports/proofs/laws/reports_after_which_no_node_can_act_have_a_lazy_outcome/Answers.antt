use Rattle.lrc_lazy_reports.proofs.Told.{outcome_told}
use Rattle.lrc_lazy_reports.proofs.laws.reports_after_which_no_node_can_act_have_a_lazy_outcome.Goals as goal

pub returns-clause-simulated : goal.returns-clause-simulated
returns-clause-simulated c = λ program nodes options events report is over.
    outcome_told program nodes options events is.0 report.acts.items is.1 is.2.acts over

pub returns-clause-made : goal.returns-clause-made
returns-clause-made c = λ order program nodes options keep run is over.
    outcome_told program nodes options run.events.items is.made run.report.acts.items is.makes is.report.acts over

pub returns-clause-threaded : goal.returns-clause-threaded
returns-clause-threaded c = λ program nodes options picker keep run wires is over.
    outcome_told program nodes options run.events.items is.made.made run.report.acts.items is.made.makes is.made.report.acts over
