use Rattle.lrc_acts_text.proofs.RapidOrders.{both_ways}
use Rattle.lrc_acts_text.proofs.laws.order_in_rapid_is_happens_before.Goals as goal

pub returns : goal.returns
returns c = λ locks nodes acts is_of well waits i j p q v w first second apart. both_ways locks nodes acts is_of well waits i j p q v w first second apart
