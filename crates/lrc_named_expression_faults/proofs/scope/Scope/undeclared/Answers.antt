-- Set, or not.
use Rattle.std.proofs.Common.{sym, ap, ◌∙◌}
use Rattle.lrc_named_expression_faults.specs.Scope.{undeclared_sense}
use Rattle.lrc_named_expression_faults.proofs.scope.Scope.undeclared.Goals as goal

pub returns-then-has : goal.returns-then-has
returns-then-has c = ap undeclared_sense (sym c.if-has.true ∙ c.has.ensures)

pub returns-else-has : goal.returns-else-has
returns-else-has c = ap undeclared_sense (sym c.if-has.false ∙ c.has.ensures)
