use Rattle.lrc_order_laws.proofs.Timed.{keeps, synchronized}
use Rattle.lrc_why_laws.proofs.Timing.{time_is}
use Rattle.lrc_why_laws.proofs.laws.the_time_told_is_that_of_the_node.Goals as goal

pub returns-clause-acts : goal.returns-clause-acts
returns-clause-acts c = λ nodes run times position reasons kept sync are. time_is kept sync position reasons are

pub returns-clause-runs : goal.returns-clause-runs
returns-clause-runs c = λ program nodes options events world position reasons e are.
    time_is (keeps program nodes options events world e) (synchronized program nodes options events world e) position reasons are
