use Rattle.lrc_lazy.proofs.Both.{may_go_on_both}
use Rattle.lrc_lazy.proofs.swapped_laws.what_may_come_next_stays.Goals as goal

pub returns : goal.returns
returns c = may_go_on_both
