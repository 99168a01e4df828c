use Rattle.lrc_copies.proofs.Paging.{page_still_made}
use Rattle.lrc_copies.proofs.page.writing_is_over_the_same_twin.Goals as goal

pub returns : goal.returns
returns g c = λ before after copy xs x offset value twin written. page_still_made before after copy xs x offset value written twin
