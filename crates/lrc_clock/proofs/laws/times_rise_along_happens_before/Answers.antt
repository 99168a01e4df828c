use Rattle.lrc_clock.proofs.Covering.{rises}
use Rattle.lrc_clock.proofs.laws.times_rise_along_happens_before.Goals as goal

pub returns : goal.returns
returns c = λ nodes run times keeps ws. λ i j h. rises keeps ws h
