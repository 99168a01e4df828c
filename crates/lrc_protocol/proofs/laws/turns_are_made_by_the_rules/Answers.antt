use Rattle.lrc_protocol.proofs.Ruled.{by_rule}
use Rattle.lrc_protocol.proofs.Allowed.{allowed}
use Rattle.lrc_protocol.proofs.laws.turns_are_made_by_the_rules.Goals as goal

pub returns-clause-made : goal.returns-clause-made
returns-clause-made c = λ node input turn after e. by_rule node input turn after e

pub returns-clause-only : goal.returns-clause-only
returns-clause-only c = λ node input turn after r. allowed node input turn after r
