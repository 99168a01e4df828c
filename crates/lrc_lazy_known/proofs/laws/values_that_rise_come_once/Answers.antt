use Rattle.lrc_lazy_known.proofs.Tidy.{rising_once}
use Rattle.lrc_lazy_known.proofs.laws.values_that_rise_come_once.Goals as goal

pub returns : goal.returns
returns c = rising_once
