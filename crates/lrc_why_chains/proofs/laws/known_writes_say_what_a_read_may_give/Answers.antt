use Rattle.lrc_why_chains.proofs.Allowing.{may_last, may_nothing, may_any}
use Rattle.lrc_why_chains.proofs.laws.known_writes_say_what_a_read_may_give.Goals as goal

pub returns-clause-last : goal.returns-clause-last
returns-clause-last c run position word i value last done none given = may_last run position word i value last done none given

pub returns-clause-none : goal.returns-clause-none
returns-clause-none c run position word none given = may_nothing run position word none given

pub returns-clause-race : goal.returns-clause-race
returns-clause-race c run position word i j crossing given = may_any run position word i j crossing given
