use Rattle.std.proofs.Common.{IsTrue}
use Rattle.lrc_copies.proofs.Lazily.{may_read}
use Rattle.lrc_copies.proofs.reading.fitting_value_may_be_read.Goals as goal

pub returns : goal.returns
returns g c = λ run j word w inside xs value has. may_read run j word w (λ a i. IsTrue (inside a i)) xs has value
