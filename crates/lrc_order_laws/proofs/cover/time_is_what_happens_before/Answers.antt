use Rattle.lrc_clock.proofs.Covering.{complete, sound}
use Rattle.lrc_clock.proofs.Intervals.{other_complete, other_sound}
use Rattle.lrc_order_laws.proofs.Timed.{keeps, synchronized}
use Rattle.lrc_order_laws.proofs.cover.time_is_what_happens_before.Goals as goal

pub returns-clause-any : goal.returns-clause-any
returns-clause-any c = λ program nodes options events world j node deed q k e does some. (
  sound (keeps program nodes options events world e) j node deed q k does some,
  complete (keeps program nodes options events world e) (synchronized program nodes options events world e) j q k,
)

pub returns-clause-other : goal.returns-clause-other
returns-clause-other c = λ program nodes options events world j node deed q k e does apart some. (
  other_sound (keeps program nodes options events world e) j node deed q k does apart some,
  other_complete (keeps program nodes options events world e) (synchronized program nodes options events world e) j q k,
)
