use Rattle.lrc_chart_laws.proofs.Exact.{exact_at}
use Rattle.lrc_chart_laws.proofs.laws.pages_that_become_invalid_are_exact.Goals as goal

pub returns : goal.returns
returns c turn l page there = exact_at turn l page there
