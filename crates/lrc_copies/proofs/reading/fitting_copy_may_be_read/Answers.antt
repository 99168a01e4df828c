use Rattle.lrc_copies.proofs.Lazily.{copy_may_read}
use Rattle.lrc_copies.proofs.reading.fitting_copy_may_be_read.Goals as goal

pub returns : goal.returns
returns g c = λ run j node word s wrote changes time xs copy offset lists. copy_may_read run j node word s wrote changes time xs offset lists copy
