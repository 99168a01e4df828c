use Rattle.lrc_exact_reports.proofs.Told.{each_is_exact}
use Rattle.lrc_exact_reports.proofs.laws.reports_read_exactly.Goals as goal

pub returns : goal.returns
returns c = each_is_exact
