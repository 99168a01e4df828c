use Rattle.lrc_copies.proofs.Paging.{page_fits_agreed, page_sound_agreed}
use Rattle.lrc_copies.proofs.page.only_members_count_for_the_page.Goals as goal

pub returns-clause-fits : goal.returns-clause-fits
returns-clause-fits g c = λ h h' copy xs. page_fits_agreed h h' copy xs

pub returns-clause-sound : goal.returns-clause-sound
returns-clause-sound g c = λ h h' words all. page_sound_agreed h h' words all
