use Rattle.lrc_exact_search.proofs.Complete.{ahead_again}
use Rattle.lrc_exact_search.proofs.run.ExactRun.settle.Goals as goal

pub returns-then-before-settled-clause-ahead : goal.returns-then-before-settled-clause-ahead
returns-then-before-settled-clause-ahead c = ahead_again c.in_ok-go_ahead.ensures.ahead c.in_ok-go_ahead-2.ensures.ahead

pub returns-else-before-settled-clause-ahead : goal.returns-else-before-settled-clause-ahead
returns-else-before-settled-clause-ahead c = ahead_again c.in_ok-go_ahead.ensures.ahead c.in_ok-go_ahead-2.ensures.ahead
