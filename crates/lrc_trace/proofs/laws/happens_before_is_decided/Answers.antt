use Rattle.lrc_trace.proofs.Decided.{HappensBefore-decided}
use Rattle.lrc_trace.proofs.laws.happens_before_is_decided.Goals as goal

pub returns : goal.returns
returns c = HappensBefore-decided
