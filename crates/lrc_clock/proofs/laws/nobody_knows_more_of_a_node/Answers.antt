use Rattle.lrc_clock.proofs.Counting.{entry_bound}
use Rattle.lrc_clock.proofs.Intervals.{bound_by_own}
use Rattle.lrc_clock.proofs.laws.nobody_knows_more_of_a_node.Goals as goal

pub returns-clause-at : goal.returns-clause-at
returns-clause-at c = λ nodes run times keeps. λ j node deed q h. entry_bound keeps j node deed h q

pub returns-clause-before : goal.returns-clause-before
returns-clause-before c = λ nodes run times keeps. bound_by_own keeps
