use Rattle.lrc_exact_worlds.proofs.Theorem.{acts_fix, was_made}
use Rattle.lrc_exact_worlds.proofs.laws.what_was_made_is_exact.Goals as goal

pub returns-clause-made : goal.returns-clause-made
returns-clause-made c = was_made

pub returns-clause-fixed : goal.returns-clause-fixed
returns-clause-fixed c = acts_fix
