use Rattle.lrc_trace.proofs.Intervals.{same_interval}
use Rattle.lrc_trace.proofs.laws.same_interval_has_no_close_between.Goals as goal

pub returns : goal.returns
returns c = same_interval
