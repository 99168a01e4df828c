-- By the rules.
use Rattle.lrc_named_statements_laws.proofs.laws.statements_have_one_core.Goals as goal
use Rattle.lrc_named_statements_laws.proofs.Unique.{core_unique}

pub returns : goal.returns
returns c = λ declared held s b instead h k. core_unique h k
