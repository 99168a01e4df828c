-- A fault inside, or one of the value.
use Rattle.std.proofs.Common.{◌≤◌, ℕ, subst}
use Rattle.lrc_named_tree.specs.Ends.{first_of}
use Rattle.lrc_named_tree.specs.View.{expression_of}
use Rattle.lrc_named_constants.specs.declared.constancy.Constancy.TheVariants.{Value}
use Rattle.lrc_named_constants.specs.Constant.{IsConstancy}
use Rattle.lrc_named_expression_faults.specs.declared.fault.FaultKind.TheVariants.{OverLimit}
use Rattle.lrc_named_expression_faults.specs.declared.fault.Limit.TheVariants as limits
use Rattle.lrc_named_expression_faults.specs.Expressions.{IsInExpression}
use Rattle.lrc_named_expression_faults.specs.Fault.{IsFirstOf, fault_at}
use Rattle.lrc_named_expression_faults.specs.View.{scope_of}
use Rattle.lrc_named_expression_faults.proofs.First.{none_found}
use Rattle.lrc_named_faults.specs.Declarations.{IsClean}
use Rattle.lrc_named_faults.proofs.Finding.{inside_first}
use Rattle.lrc_named_faults.proofs.values.size.Goals as goal

pub returns-in-Some : goal.returns-in-Some
returns-in-Some c =
    let scope = scope_of c.args.scope.now in
    let e = expression_of c.args.expression.now in
    inside_first (λ f. IsInExpression scope e f) (IsClean scope e × ((v : ℕ) → IsConstancy scope.declared scope.known e (Value v) → 1 ≤ v → v ≤ 65536 → ⊥)) (fault_at (first_of e) (OverLimit limits.Size)) c.in-Some.fault
    (λ p. p.0) (subst (λ r. IsFirstOf (λ f. IsInExpression scope e f) r) c.in-Some.is c.in_ok-inside.ensures)

pub size_without-requires-clause-clean : goal.size_without-requires-clause-clean
size_without-requires-clause-clean c =
    none_found (λ f. IsInExpression (scope_of c.args.scope.now) (expression_of c.args.expression.now) f) c.in_ok-inside.inside c.in-None.is c.in_ok-inside.ensures
