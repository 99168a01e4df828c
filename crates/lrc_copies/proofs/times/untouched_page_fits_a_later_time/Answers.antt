use Rattle.lrc_copies.proofs.Timing.{untouched_fits}
use Rattle.lrc_copies.proofs.times.untouched_page_fits_a_later_time.Goals as goal

pub returns : goal.returns
returns g c = λ s wrote changes all since upto copy rises. untouched_fits s wrote changes all since upto rises copy
