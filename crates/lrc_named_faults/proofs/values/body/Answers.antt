-- A fault inside, or one of the value.
use Rattle.std.proofs.Common.{◌<◌, ℕ, ap, subst, ◌∙◌, arith}
use Rattle.lrc_named_tree.specs.Ends.{first_of}
use Rattle.lrc_named_tree.specs.View.{expression_of}
use Rattle.lrc_named_expression_faults.specs.declared.fault.FaultKind.TheVariants.{OverLimit}
use Rattle.lrc_named_expression_faults.specs.declared.fault.Limit.TheVariants as limits
use Rattle.lrc_named_expression_faults.specs.Expressions.{IsInExpression}
use Rattle.lrc_named_expression_faults.specs.Extent.{Weighs}
use Rattle.lrc_named_expression_faults.specs.Fault.{IsFirstOf, fault_at}
use Rattle.lrc_named_expression_faults.specs.View.{scope_of}
use Rattle.lrc_named_expression_faults.proofs.Clean.{clean_is_well_here}
use Rattle.lrc_named_expression_faults.proofs.First.{none_found}
use Rattle.lrc_named_faults.specs.Declarations.{IsClean}
use Rattle.lrc_named_faults.proofs.Finding.{inside_first, own_first}
use Rattle.lrc_named_faults.proofs.values.body.Goals as goal

pub returns-in-Some : goal.returns-in-Some
returns-in-Some c =
    let scope = scope_of c.args.scope.now in
    let e = expression_of c.args.expression.now in
    inside_first (λ f. IsInExpression scope e f) (IsClean scope e × ((n : ℕ) × Weighs scope.declared e n × (256 < n))) (fault_at (first_of e) (OverLimit limits.Body)) c.in-Some.fault
    (λ p. p.0) (subst (λ r. IsFirstOf (λ f. IsInExpression scope e f) r) c.in-Some.is c.in_ok-inside.ensures)

pub extent-extent-requires-clause-well : goal.extent-extent-requires-clause-well
extent-extent-requires-clause-well c =
    let scope = scope_of c.args.scope.now in
    let e = expression_of c.args.expression.now in
    clean_is_well_here scope e (none_found (λ f. IsInExpression scope e f) c.in_ok-inside.inside c.in-None.is c.in_ok-inside.ensures)

pub returns-then-extent-le256 : goal.returns-then-extent-le256
returns-then-extent-le256 c =
    let scope = scope_of c.args.scope.now in
    let e = expression_of c.args.expression.now in
    (none_found (λ f. IsInExpression scope e f) c.in_ok-inside.inside c.in-None.is c.in_ok-inside.ensures, c.extent-extent.ensures, c.if-extent-le256.true)

pub returns-else-extent-le256 : goal.returns-else-extent-le256
returns-else-extent-le256 c =
    let scope = scope_of c.args.scope.now in
    let e = expression_of c.args.expression.now in
    let clean = none_found (λ f. IsInExpression scope e f) c.in_ok-inside.inside c.in-None.is c.in_ok-inside.ensures in
    let x = c.extent-extent.ensures in
    let weight = x.weight in
    let many : 256 < x.count = omega (arith, weight, c.if-extent-le256.false) in
    own_first (λ f. IsInExpression scope e f) (IsClean scope e × ((n : ℕ) × Weighs scope.declared e n × (256 < n))) c.at_token.result
    (fault_at (first_of e) (OverLimit limits.Body)) clean (clean, (x.count, x.weighs, many)) (c.at_token.ensures ∙ ap (λ n. fault_at n (OverLimit limits.Body)) c.first-first.ensures)
