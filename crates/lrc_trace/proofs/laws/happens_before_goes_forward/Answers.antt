use Rattle.lrc_trace.proofs.HappensBefore.{forward, within}
use Rattle.lrc_trace.proofs.laws.happens_before_goes_forward.Goals as goal

pub returns : goal.returns
returns c = λ run i j h. (forward h, within h)
