use Rattle.lrc_order_laws.proofs.Timed.{waits}
use Rattle.lrc_acts_text_laws.proofs.OfRuns.{run_is_of, order_is}
use Rattle.lrc_acts_text_laws.proofs.laws.order_in_rapid_of_every_run_is_happens_before.Goals as goal

pub returns-clause-in_range : goal.returns-clause-in_range
returns-clause-in_range c = run_is_of

pub returns-clause-waits : goal.returns-clause-waits
returns-clause-waits c = waits

pub returns-clause-order : goal.returns-clause-order
returns-clause-order c = λ program nodes options events world i j p q v w e first second apart.
    order_is program nodes options events world e i j p q v w first second apart
