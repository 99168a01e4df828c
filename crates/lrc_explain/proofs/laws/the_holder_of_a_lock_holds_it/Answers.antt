use Rattle.lrc_explain.proofs.Held.{holds_whole, told_whole}
use Rattle.lrc_explain.proofs.laws.the_holder_of_a_lock_holds_it.Goals as goal

pub returns-clause-holds : goal.returns-clause-holds
returns-clause-holds c = λ nodes run lines lock holder synchronized is. holds_whole nodes run lines lock holder synchronized is

pub returns-clause-told : goal.returns-clause-told
returns-clause-told c = λ nodes run lines lock node synchronized held. told_whole nodes run lines lock node synchronized held
