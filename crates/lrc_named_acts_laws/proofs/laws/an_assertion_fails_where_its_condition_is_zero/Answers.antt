-- By what dividing gives.
use Rattle.lrc_named_core.specs.Tree.{empty}
use Rattle.lrc_named_statements.specs.Statements.{trial_of}
use Rattle.lrc_named_acts_laws.proofs.Choosing.{has_value, set, trapped, trial_not_zero, trial_zero}
use Rattle.lrc_named_acts_laws.proofs.laws.an_assertion_fails_where_its_condition_is_zero.Goals as goal

pub returns-clause-fails : goal.returns-clause-fails
returns-clause-fails c = λ numbers t at name p more stands is d after g.
    trapped numbers t at name (trial_of p) empty more stands (trial_zero numbers t p is) d after g

pub returns-clause-holds : goal.returns-clause-holds
returns-clause-holds c = λ numbers t at name p more v stands is other d after g.
    let r = set numbers t at name (trial_of p) empty more 1 stands (trial_not_zero numbers t p v is other) d after g in
    (r.deed, r.then_at, r.goes_on, r.stands)

pub returns-clause-has_a_value : goal.returns-clause-has_a_value
returns-clause-has_a_value c = λ numbers t p free. has_value numbers t p free
