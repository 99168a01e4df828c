use Rattle.lrc_clock.proofs.Racing.{named_of_segments, segments_named, unknown_unordered, unordered_unknown}
use Rattle.lrc_order_laws.proofs.Timed.{keeps, synchronized, waits}
use Rattle.lrc_order_laws.proofs.cover.races_are_seen_in_times.Goals as goal

pub returns-clause-unordered : goal.returns-clause-unordered
returns-clause-unordered c = λ program nodes options events world i p j q v w e apart first second. (
  unordered_unknown (keeps program nodes options events world e) (synchronized program nodes options events world e) i p j q v w apart first second,
  unknown_unordered (keeps program nodes options events world e) (synchronized program nodes options events world e) i p j q v w apart first second,
)

pub returns-clause-named : goal.returns-clause-named
returns-clause-named c = λ program nodes options events world race e. (
  named_of_segments (keeps program nodes options events world e) (synchronized program nodes options events world e) race,
  segments_named (keeps program nodes options events world e) (synchronized program nodes options events world e)
      (waits program nodes options events world e) race,
)
