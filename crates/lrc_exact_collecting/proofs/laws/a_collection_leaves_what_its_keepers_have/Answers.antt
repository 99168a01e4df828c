use Rattle.lrc_exact_collecting.proofs.Leaving.{left_own, left_unnamed}
use Rattle.lrc_exact_collecting.proofs.laws.a_collection_leaves_what_its_keepers_have.Goals as goal

pub returns-clause-kept : goal.returns-clause-kept
returns-clause-kept c = left_own

pub returns-clause-before : goal.returns-clause-before
returns-clause-before c = left_unnamed
