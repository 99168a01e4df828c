use Rattle.lrc_trace.proofs.Intervals.{same_without_close, next_behind_close}
use Rattle.lrc_trace.proofs.laws.intervals_rise_at_closes.Goals as goal

pub returns-clause-same : goal.returns-clause-same
returns-clause-same c = same_without_close

pub returns-clause-next : goal.returns-clause-next
returns-clause-next c = next_behind_close
