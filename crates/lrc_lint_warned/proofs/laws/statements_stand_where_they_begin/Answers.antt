use Rattle.lrc_lint_warned.proofs.Derived.{statements_stand}
use Rattle.lrc_lint_warned.proofs.laws.statements_stand_where_they_begin.Goals as goal

pub returns : goal.returns
returns c = λ p tokens d. statements_stand p tokens d
