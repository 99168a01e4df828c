-- The body's fault, and that of the number of arguments.
use Rattle.std.proofs.Common.{◌≡◌, ◌⊎◌, true, length, sym, subst}
use Rattle.lrc_named_tree.specs.View.{expressions_of}
use Rattle.lrc_named_names.specs.View.{declared_of}
use Rattle.lrc_named_constants.specs.Well.{bytes_of}
use Rattle.lrc_named_expression_faults.specs.declared.fault.FaultKind.TheVariants.{NotConstant}
use Rattle.lrc_named_expression_faults.specs.Expressions.{AreWrongArguments}
use Rattle.lrc_named_expression_faults.specs.Extent.{Varies, before}
use Rattle.lrc_named_expression_faults.specs.Fault.{IsFirstOf, fault_at}
use Rattle.lrc_named_expression_faults.proofs.First.{earlier_first}
use Rattle.lrc_named_expression_faults.proofs.scope.Scope.in_function_call.Goals as goal

pub returns : goal.returns
returns c =
    λ own body is means.
    let k = c.args.self.now.is_constant in
    let d = declared_of c.args.self.now.names.now in
    let es = expressions_of c.args.arguments.now in
    let close = c.args.close in
    let counted = subst (λ n. IsFirstOf (λ f. AreWrongArguments es close n f) c.wrong_arguments.result) is c.wrong_arguments.ensures in
    subst (λ r. IsFirstOf (λ f. (((k ≡ true) × Varies (before d c.args.name.bytes.now) (bytes_of own) body) × (f ≡ fault_at c.args.name.at NotConstant))
    ⊎ AreWrongArguments es close (length own) f) r) (sym c.earlier.ensures)
    (earlier_first (λ f. ((k ≡ true) × Varies (before d c.args.name.bytes.now) (bytes_of own) body) × (f ≡ fault_at c.args.name.at NotConstant))
    (λ f. AreWrongArguments es close (length own) f) c.variable-own.result c.wrong_arguments.result (c.variable-own.ensures own body means) counted)
