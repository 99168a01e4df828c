use Rattle.lrc_trace.proofs.Holding.{one_holder}
use Rattle.lrc_trace.proofs.laws.a_lock_has_one_holder.Goals as goal

pub returns : goal.returns
returns c = λ nodes run ws position p q l. one_holder ws position p q l
