use Rattle.lrc_lazy.proofs.Both.{still_may}
use Rattle.lrc_lazy.proofs.swapped_laws.what_may_come_next_still_may.Goals as goal

pub returns : goal.returns
returns c = still_may
