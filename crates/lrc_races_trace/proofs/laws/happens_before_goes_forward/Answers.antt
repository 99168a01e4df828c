use Rattle.lrc_races_trace.proofs.HappensBefore.{forward}
use Rattle.lrc_races_trace.proofs.laws.happens_before_goes_forward.Goals as goal

pub returns : goal.returns
returns c = λ events i j h. forward h
