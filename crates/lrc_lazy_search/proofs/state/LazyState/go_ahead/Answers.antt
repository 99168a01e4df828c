use Rattle.lrc_lazy_search.specs.Searching.{renewed}
use Rattle.lrc_lazy_search.proofs.Ahead.{ahead_state}
use Rattle.lrc_lazy_search.proofs.state.LazyState.go_ahead.Goals as goal

pub renew-requires : goal.renew-requires
renew-requires c = ahead_state c.requires.state c.in_ok-turns.ensures.ahead

pub returns-clause-ahead : goal.returns-clause-ahead
returns-clause-ahead c = renewed c.in_ok-turns.ensures.ahead c.in_ok-renew.ensures.fresh

pub returns-clause-neat : goal.returns-clause-neat
returns-clause-neat c = λ before. c.in_ok-renew.ensures.neat (c.in_ok-turns.ensures.neat before)
