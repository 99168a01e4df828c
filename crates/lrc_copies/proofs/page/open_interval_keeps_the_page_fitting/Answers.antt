use Rattle.lrc_copies.proofs.Paging.{page_open}
use Rattle.lrc_copies.proofs.page.open_interval_keeps_the_page_fitting.Goals as goal

pub returns : goal.returns
returns g c = λ h twin copy x xs. page_open h twin copy x xs
