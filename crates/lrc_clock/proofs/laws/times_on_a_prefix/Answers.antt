use Rattle.lrc_clock.proofs.Prefixes.{arrived_time-prefix, released_time-prefix, stamp_at-prefix, time_at-prefix, time_before-prefix}
use Rattle.lrc_clock.proofs.laws.times_on_a_prefix.Goals as goal

pub returns-clause-at : goal.returns-clause-at
returns-clause-at c = time_at-prefix

pub returns-clause-before : goal.returns-clause-before
returns-clause-before c = time_before-prefix

pub returns-clause-stamp : goal.returns-clause-stamp
returns-clause-stamp c = stamp_at-prefix

pub returns-clause-released : goal.returns-clause-released
returns-clause-released c = released_time-prefix

pub returns-clause-arrived : goal.returns-clause-arrived
returns-clause-arrived c = arrived_time-prefix
