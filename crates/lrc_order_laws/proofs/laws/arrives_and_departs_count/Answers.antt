use Rattle.lrc_order_laws.proofs.Episodes.{arrivals, departures}
use Rattle.lrc_order_laws.proofs.laws.arrives_and_departs_count.Goals as goal

pub returns-clause-arrives : goal.returns-clause-arrives
returns-clause-arrives c = λ program nodes options events world n l e at. arrivals program nodes options events world e n l at

pub returns-clause-departs : goal.returns-clause-departs
returns-clause-departs c = λ program nodes options events world n l e at. departures program nodes options events world e n l at
