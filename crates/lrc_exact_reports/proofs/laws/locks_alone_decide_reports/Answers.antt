use Rattle.lrc_exact_reports.proofs.Told.{locks_decide_reports, orders_decide_reports}
use Rattle.lrc_exact_reports.proofs.laws.locks_alone_decide_reports.Goals as goal

pub returns-clause-locks : goal.returns-clause-locks
returns-clause-locks c = locks_decide_reports

pub returns-clause-orders : goal.returns-clause-orders
returns-clause-orders c = orders_decide_reports
