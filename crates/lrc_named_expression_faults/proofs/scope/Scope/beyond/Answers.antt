-- The value is below the size, or not, or there is none.
use Rattle.std.proofs.Common.{◌≡◌, ◌<◌, ◌≤◌, sym, ap, subst, ◌∙◌, arith}
use Rattle.std.specs.Prelude.{Some}
use Rattle.lrc_named_tree.specs.Ends.{first_of}
use Rattle.lrc_named_tree.specs.View.{expression_of}
use Rattle.lrc_named_expression_faults.specs.declared.fault.FaultKind.TheVariants.{IndexOutOfRange}
use Rattle.lrc_named_expression_faults.specs.Expressions.{IsBeyond, IsInExpression}
use Rattle.lrc_named_expression_faults.specs.Fault.{IsFirstOf, fault_at}
use Rattle.lrc_named_expression_faults.specs.View.{scope_of}
use Rattle.lrc_named_expression_faults.proofs.Clean.{clean_is_well_here}
use Rattle.lrc_named_expression_faults.proofs.Inside.{beyond_none, beyond_not, beyond_so, value_none, value_some}
use Rattle.lrc_named_expression_faults.proofs.scope.Scope.beyond.Goals as goal

pub value-requires-clause-well : goal.value-requires-clause-well
value-requires-clause-well c = clean_is_well_here (scope_of c.args.self.now) (expression_of c.args.index.now) c.requires.clean

pub returns-then-value-from : goal.returns-then-value-from
returns-then-value-from c =
    let scope = scope_of c.args.self.now in
    let e = expression_of c.args.index.now in
    let under : c.in-Some.value < c.args.size = omega (arith, c.if-value-from.true, c.from.ensures) in
    beyond_not (λ g. IsInExpression scope e g) scope e c.args.size c.in-Some.value (value_some scope e _ c.in-Some.value c.in-Some.is c.in_ok-value.ensures) under

pub returns-else-value-from : goal.returns-else-value-from
returns-else-value-from c =
    let scope = scope_of c.args.self.now in
    let e = expression_of c.args.index.now in
    let over : c.args.size ≤ c.in-Some.value = omega (arith, c.if-value-from.false, c.from.ensures) in
    let is : c.at_token.result ≡ fault_at (first_of e) IndexOutOfRange = c.at_token.ensures ∙ ap (λ n. fault_at n IndexOutOfRange) c.first-first.ensures in
    subst (λ x. IsFirstOf (λ f. IsBeyond (λ g. IsInExpression scope e g) scope e c.args.size f) (Some x)) (sym is)
    (beyond_so (λ g. IsInExpression scope e g) scope e c.args.size c.in-Some.value c.requires.clean
    (value_some scope e _ c.in-Some.value c.in-Some.is c.in_ok-value.ensures) over)

pub returns-in-None : goal.returns-in-None
returns-in-None c =
    let scope = scope_of c.args.self.now in
    let e = expression_of c.args.index.now in
    beyond_none (λ g. IsInExpression scope e g) scope e c.args.size (value_none scope e _ c.in-None.is c.in_ok-value.ensures)
