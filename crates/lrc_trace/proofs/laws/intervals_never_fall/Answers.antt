use Rattle.lrc_trace.proofs.Intervals.{never_fall}
use Rattle.lrc_trace.proofs.laws.intervals_never_fall.Goals as goal

pub returns : goal.returns
returns c = never_fall
