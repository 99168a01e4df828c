use Rattle.lrc_copies.proofs.Paging.{page_closed}
use Rattle.lrc_copies.proofs.page.closing_a_written_page_stays_sound.Goals as goal

pub returns : goal.returns
returns g c = λ h all x twin copy. page_closed h all x twin copy
