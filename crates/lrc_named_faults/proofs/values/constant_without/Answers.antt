-- A value, or none.
use Rattle.std.proofs.Common.{ℕ, ap, ◌∙◌}
use Rattle.lrc_named_tree.specs.Ends.{first_of}
use Rattle.lrc_named_tree.specs.View.{expression_of}
use Rattle.lrc_named_constants.specs.declared.constancy.Constancy.TheVariants.{Value}
use Rattle.lrc_named_constants.specs.Constant.{IsConstancy}
use Rattle.lrc_named_expression_faults.specs.declared.fault.FaultKind.TheVariants.{OverLimit}
use Rattle.lrc_named_expression_faults.specs.declared.fault.Limit.TheVariants as limits
use Rattle.lrc_named_expression_faults.specs.Expressions.{IsInExpression}
use Rattle.lrc_named_expression_faults.specs.Fault.{fault_at}
use Rattle.lrc_named_expression_faults.specs.View.{scope_of}
use Rattle.lrc_named_expression_faults.proofs.Clean.{clean_is_well_here}
use Rattle.lrc_named_expression_faults.proofs.Inside.{value_none, value_some}
use Rattle.lrc_named_faults.specs.Declarations.{IsClean}
use Rattle.lrc_named_faults.proofs.Finding.{own_first}
use Rattle.lrc_named_faults.proofs.values.constant_without.Goals as goal

pub value-requires-clause-well : goal.value-requires-clause-well
value-requires-clause-well c = clean_is_well_here (scope_of c.args.scope.now) (expression_of c.args.expression.now) c.requires.clean

pub returns-in-Some : goal.returns-in-Some
returns-in-Some c =
    (c.requires.clean, value_some (scope_of c.args.scope.now) (expression_of c.args.expression.now) _ c.in-Some.value c.in-Some.is c.in_ok-value.ensures)

pub returns-in-None : goal.returns-in-None
returns-in-None c =
    let scope = scope_of c.args.scope.now in
    let e = expression_of c.args.expression.now in
    own_first (λ f. IsInExpression scope e f) (IsClean scope e × ((v : ℕ) → IsConstancy scope.declared scope.known e (Value v) → ⊥)) c.at_token.result
    (fault_at (first_of e) (OverLimit limits.Division)) c.requires.clean (c.requires.clean, value_none scope e _ c.in-None.is c.in_ok-value.ensures)
    (c.at_token.ensures ∙ ap (λ n. fault_at n (OverLimit limits.Division)) c.first-first.ensures)
