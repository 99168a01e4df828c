use Rattle.lrc_copies.proofs.Timing.{uncovered_fits}
use Rattle.lrc_copies.proofs.times.uncovered_intervals_make_no_difference.Goals as goal

pub returns : goal.returns
returns g c = λ s wrote changes all time x copy. uncovered_fits s wrote changes all time x copy
