-- By the first fault inside, if there is one.
use Rattle.std.proofs.Common.{subst}
use Rattle.lrc_named_tree.specs.View.{expression_of}
use Rattle.lrc_named_expression_faults.specs.Expressions.{IsInExpression}
use Rattle.lrc_named_expression_faults.specs.Fault.{IsFirstOf}
use Rattle.lrc_named_expression_faults.specs.View.{scope_of}
use Rattle.lrc_named_index_hint.proofs.Finding.{faulty_over}
use Rattle.lrc_named_index_hint.proofs.over.index_over.Goals as goal

pub returns-in-Some : goal.returns-in-Some
returns-in-Some c =
    let scope = scope_of c.args.scope.now in
    let e = expression_of c.args.index.now in
    faulty_over scope e c.args.size c.in-Some.field-0
    (subst (λ o. IsFirstOf (λ f. IsInExpression scope e f) o) c.in-Some.is c.in_ok-expression.ensures).0
