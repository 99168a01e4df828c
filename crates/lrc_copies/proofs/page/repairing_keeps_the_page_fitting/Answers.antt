use Rattle.lrc_copies.proofs.Paging.{page_repaired}
use Rattle.lrc_copies.proofs.page.repairing_keeps_the_page_fitting.Goals as goal

pub returns : goal.returns
returns g c = λ h all xs more copy. page_repaired h all xs more copy
