use Rattle.lrc_exact_worlds.proofs.Theorem.{locks_decide, order_fixes}
use Rattle.lrc_exact_worlds.proofs.laws.locks_alone_decide.Goals as goal

pub returns-clause-order : goal.returns-clause-order
returns-clause-order c = order_fixes

pub returns-clause-locks : goal.returns-clause-locks
returns-clause-locks c = locks_decide
