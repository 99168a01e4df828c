use Rattle.lrc_copies.proofs.Paging.{page_written}
use Rattle.lrc_copies.proofs.page.writing_keeps_the_page_fitting.Goals as goal

pub returns : goal.returns
returns g c = λ before after copy xs x offset value written. page_written before after copy xs x offset value written
