use Rattle.std.proofs.Common.{subst}
use Rattle.lrc_ranges.specs.Relations.{Relates}
use Rattle.lrc_ranges.proofs.narrow.bounded.Goals as goal

pub returns-in-NotEqual : goal.returns-in-NotEqual
returns-in-NotEqual c = λ a b p q r. c.without.ensures a b p q (subst (λ x. Relates x a b) c.in-NotEqual.is r)

pub returns-in-Less : goal.returns-in-Less
returns-in-Less c = λ a b p q r. c.below.ensures a b p q (subst (λ x. Relates x a b) c.in-Less.is r)
