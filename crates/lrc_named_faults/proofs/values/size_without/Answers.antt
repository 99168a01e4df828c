-- A value that is a size, or none.
use Rattle.std.proofs.Common.{◌≤◌, ℕ, arith}
use Rattle.lrc_named_tree.specs.Ends.{first_of}
use Rattle.lrc_named_tree.specs.View.{expression_of}
use Rattle.lrc_named_constants.specs.declared.constancy.Constancy.TheVariants.{Value}
use Rattle.lrc_named_constants.specs.Constant.{IsConstancy}
use Rattle.lrc_named_expression_faults.specs.declared.fault.FaultKind.TheVariants.{OverLimit}
use Rattle.lrc_named_expression_faults.specs.declared.fault.Limit.TheVariants as limits
use Rattle.lrc_named_expression_faults.specs.Expressions.{IsInExpression}
use Rattle.lrc_named_expression_faults.specs.Fault.{fault_at}
use Rattle.lrc_named_expression_faults.specs.View.{scope_of}
use Rattle.lrc_named_expression_faults.proofs.Clean.{clean_is_well_here}
use Rattle.lrc_named_expression_faults.proofs.Inside.{value_none, value_some}
use Rattle.lrc_named_faults.specs.Declarations.{IsClean}
use Rattle.lrc_named_faults.proofs.Finding.{no_other_size, own_first}
use Rattle.lrc_named_faults.proofs.values.size_without.Goals as goal

pub value-requires-clause-well : goal.value-requires-clause-well
value-requires-clause-well c = clean_is_well_here (scope_of c.args.scope.now) (expression_of c.args.expression.now) c.requires.clean

pub returns-then-value-eq0 : goal.returns-then-value-eq0
returns-then-value-eq0 c =
    let scope = scope_of c.args.scope.now in
    let e = expression_of c.args.expression.now in
    let is = value_some scope e _ c.in-Some.value c.in-Some.is c.in_ok-value.ensures in
    let wrong : (1 ≤ c.in-Some.value → c.in-Some.value ≤ 65536 → ⊥) = λ low high. omega (arith, c.if-value-eq0.true) in
    let other = no_other_size scope e c.in-Some.value is wrong in
    own_first (λ f. IsInExpression scope e f) (IsClean scope e × ((v : ℕ) → IsConstancy scope.declared scope.known e (Value v) → 1 ≤ v → v ≤ 65536 → ⊥)) c.no_size.result (fault_at (first_of e) (OverLimit limits.Size)) c.requires.clean
    (c.requires.clean, other) c.no_size.ensures

pub returns-then-value-gt65536 : goal.returns-then-value-gt65536
returns-then-value-gt65536 c =
    let scope = scope_of c.args.scope.now in
    let e = expression_of c.args.expression.now in
    let is = value_some scope e _ c.in-Some.value c.in-Some.is c.in_ok-value.ensures in
    let wrong : (1 ≤ c.in-Some.value → c.in-Some.value ≤ 65536 → ⊥) = λ low high. omega (arith, c.if-value-gt65536.true) in
    let other = no_other_size scope e c.in-Some.value is wrong in
    own_first (λ f. IsInExpression scope e f) (IsClean scope e × ((v : ℕ) → IsConstancy scope.declared scope.known e (Value v) → 1 ≤ v → v ≤ 65536 → ⊥)) c.no_size-then-value-gt65536.result (fault_at (first_of e) (OverLimit limits.Size)) c.requires.clean
    (c.requires.clean, other) c.no_size-then-value-gt65536.ensures

pub returns-in-None : goal.returns-in-None
returns-in-None c =
    let scope = scope_of c.args.scope.now in
    let e = expression_of c.args.expression.now in
    let none = value_none scope e _ c.in-None.is c.in_ok-value.ensures in
    let other : (v : ℕ) → IsConstancy scope.declared scope.known e (Value v) → 1 ≤ v → v ≤ 65536 → ⊥ = λ v h low high. none v h in
    own_first (λ f. IsInExpression scope e f) (IsClean scope e × ((v : ℕ) → IsConstancy scope.declared scope.known e (Value v) → 1 ≤ v → v ≤ 65536 → ⊥)) c.no_size-in-None.result (fault_at (first_of e) (OverLimit limits.Size)) c.requires.clean
    (c.requires.clean, other) c.no_size-in-None.ensures

pub returns-else-value-gt65536 : goal.returns-else-value-gt65536
returns-else-value-gt65536 c =
    let scope = scope_of c.args.scope.now in
    let e = expression_of c.args.expression.now in
    let low : 1 ≤ c.in-Some.value = omega (arith, c.if-value-eq0.false) in
    let high : c.in-Some.value ≤ 65536 = omega (arith, c.if-value-gt65536.false) in
    (c.requires.clean, value_some scope e _ c.in-Some.value c.in-Some.is c.in_ok-value.ensures, low, high)
