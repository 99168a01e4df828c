use Rattle.std.proofs.Common.{sym, ◌∙◌}
use Rattle.lrc_named_tree.specs.View.{expression_of}
use Rattle.lrc_named_expression.proofs.Negated.{negated_last}
use Rattle.lrc_named_expression.proofs.level.negated.Goals as goal

pub loop-at-preserved : goal.loop-at-preserved
loop-at-preserved c =
    rw c.in_ok-whole.ensures
    (sym
    (negated_last c.loop-at.negations.items c.pop.new.self.items c.in-Some.at (expression_of c.loop-at.whole)
    c.in-Some.ensures.items)
    ∙ c.loop-at.invariant)
