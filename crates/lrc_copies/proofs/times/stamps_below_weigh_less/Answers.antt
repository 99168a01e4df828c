use Rattle.lrc_copies.proofs.Stamping.{lighter_below}
use Rattle.lrc_copies.proofs.times.stamps_below_weigh_less.Goals as goal

pub returns : goal.returns
returns g c = λ s nodes all a b stamped. lighter_below s nodes all stamped a b
