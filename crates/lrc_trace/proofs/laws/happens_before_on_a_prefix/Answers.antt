use Rattle.lrc_trace.proofs.HappensBefore.{longer, shorter}
use Rattle.lrc_trace.proofs.laws.happens_before_on_a_prefix.Goals as goal

pub returns : goal.returns
returns c = λ run more i j in_run. (longer run more, shorter run more in_run)
