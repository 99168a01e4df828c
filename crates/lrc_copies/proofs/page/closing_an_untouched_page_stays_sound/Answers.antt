use Rattle.lrc_copies.proofs.Paging.{page_untouched}
use Rattle.lrc_copies.proofs.page.closing_an_untouched_page_stays_sound.Goals as goal

pub returns : goal.returns
returns g c = λ h all x words. page_untouched h all x words
