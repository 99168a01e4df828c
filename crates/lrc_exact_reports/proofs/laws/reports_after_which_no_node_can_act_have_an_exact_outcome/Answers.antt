use Rattle.lrc_exact_reports.proofs.Told.{each_has_an_exact_outcome}
use Rattle.lrc_exact_reports.proofs.laws.reports_after_which_no_node_can_act_have_an_exact_outcome.Goals as goal

pub returns : goal.returns
returns c = each_has_an_exact_outcome
