-- Declared twice, or reserved.
use Rattle.std.proofs.Common.{◌≡◌, ◌||◌, true, is_some, subst}
use Rattle.lrc_named_tree.specs.View.{named_of}
use Rattle.lrc_named_names.specs.Names.{meaning_of}
use Rattle.lrc_named_names.specs.View.{declared_of}
use Rattle.lrc_named_expression_faults.specs.declared.fault.FaultKind.TheVariants.{DeclaredTwice}
use Rattle.lrc_named_expression_faults.specs.Fault.{IsFirstOf, fault_at}
use Rattle.lrc_named_expression_faults.proofs.First.{joined, only_if_first}
use Rattle.lrc_named_statement_faults.specs.Statements.{IsReserved}
use Rattle.lrc_named_faults.proofs.values.in_name.Goals as goal

pub returns : goal.returns
returns c =
    let y = fault_at c.args.name.at DeclaredTwice in
    let own = subst (λ b. IsFirstOf (λ f. (b ≡ true) × (f ≡ y)) c.only_if-own.result) c.stood_before-before.ensures
    (only_if_first c.stood_before-before.result c.at_token-twice.result y c.only_if-own.result c.only_if-own.ensures c.at_token-twice.ensures) in
    joined (λ f. ((c.args.stood || is_some (meaning_of (declared_of c.args.names.now) c.args.name.bytes.now)) ≡ true) × (f ≡ y)) (λ f. IsReserved (named_of c.args.name) f)
    c.only_if-own.result c.reserved.result c.earlier.result c.earlier.ensures own c.reserved.ensures
