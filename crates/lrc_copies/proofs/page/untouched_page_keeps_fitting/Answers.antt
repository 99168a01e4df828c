use Rattle.lrc_copies.proofs.Paging.{page_fits_more}
use Rattle.lrc_copies.proofs.page.untouched_page_keeps_fitting.Goals as goal

pub returns : goal.returns
returns g c = λ h copy xs ys. page_fits_more h copy xs ys
