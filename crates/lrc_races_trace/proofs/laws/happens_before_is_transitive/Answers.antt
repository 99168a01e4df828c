use Rattle.lrc_races_trace.proofs.HappensBefore.{transitive}
use Rattle.lrc_races_trace.proofs.laws.happens_before_is_transitive.Goals as goal

pub returns : goal.returns
returns c = λ events i j k h l. transitive h l
