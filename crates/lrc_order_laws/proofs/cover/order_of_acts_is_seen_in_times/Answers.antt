use Rattle.lrc_clock.proofs.Covering.{rises}
use Rattle.lrc_clock.proofs.Ordering.{cover_to_order, order_to_cover}
use Rattle.lrc_order_laws.proofs.Timed.{keeps, synchronized}
use Rattle.lrc_order_laws.proofs.cover.order_of_acts_is_seen_in_times.Goals as goal

pub returns-clause-acts : goal.returns-clause-acts
returns-clause-acts c = λ program nodes options events world i j p q d f e apart first second. (
  order_to_cover (keeps program nodes options events world e) (synchronized program nodes options events world e) i j p q d f apart first second,
  cover_to_order (keeps program nodes options events world e) (synchronized program nodes options events world e) i j p q d f apart first second,
)

pub returns-clause-rise : goal.returns-clause-rise
returns-clause-rise c = λ program nodes options events world i j e before.
    rises (keeps program nodes options events world e) (synchronized program nodes options events world e) before
