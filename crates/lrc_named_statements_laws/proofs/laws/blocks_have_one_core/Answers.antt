-- By the rules.
use Rattle.lrc_named_statements_laws.proofs.laws.blocks_have_one_core.Goals as goal
use Rattle.lrc_named_statements_laws.proofs.Unique.{cores_unique}

pub returns : goal.returns
returns c = λ declared held statements b instead h k. cores_unique h k
