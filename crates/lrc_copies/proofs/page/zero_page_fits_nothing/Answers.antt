use Rattle.lrc_copies.proofs.Paging.{zero_page_fits, zero_page_of_size_fits}
use Rattle.lrc_copies.proofs.page.zero_page_fits_nothing.Goals as goal

pub returns-clause-any_length : goal.returns-clause-any_length
returns-clause-any_length g c = λ h words. zero_page_fits h words

pub returns-clause-of_a_size : goal.returns-clause-of_a_size
returns-clause-of_a_size g c = λ h size. zero_page_of_size_fits h size
