use Rattle.lrc_trace.proofs.Latest.{one_reading}
use Rattle.lrc_trace.proofs.laws.ordered_writes_give_one_value.Goals as goal

pub returns : goal.returns
returns c = λ run j word v w. one_reading run j word v w
