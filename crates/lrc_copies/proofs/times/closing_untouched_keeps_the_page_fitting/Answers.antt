use Rattle.lrc_copies.proofs.Timing.{untouched_fits_closed}
use Rattle.lrc_copies.proofs.times.closing_untouched_keeps_the_page_fitting.Goals as goal

pub returns : goal.returns
returns g c = λ s wrote changes nodes all time x copy closed. untouched_fits_closed s wrote changes nodes all time x closed copy
