use Rattle.lrc_lazy.proofs.BufferingLazily.{buffered_lazily}
use Rattle.lrc_lazy.proofs.BufferingPlainly.{not_plainly}
use Rattle.lrc_lazy.proofs.laws.store_buffering_has_an_outcome_that_is_lazy_alone.Goals as goal

pub returns-clause-lazy : goal.returns-clause-lazy
returns-clause-lazy c = λ program is. buffered_lazily program is

pub returns-clause-plain : goal.returns-clause-plain
returns-clause-plain c = λ program is. not_plainly program is
