-- The name begins so, or not.
use Rattle.lrc_named_expression_faults.specs.declared.fault.FaultKind.TheVariants.{ReservedName}
use Rattle.lrc_named_expression_faults.specs.Fault.{fault_at}
use Rattle.lrc_named_expression_faults.proofs.First.{where_first}
use Rattle.std.proofs.Common.{◌≡◌, true, sym, ◌∙◌}
use Rattle.lrc_named_statement_faults.specs.Statements.{is_reserved}
use Rattle.lrc_named_statement_faults.proofs.statements.reserved.Goals as goal

pub returns : goal.returns
returns c =
    where_first (is_reserved c.args.name.bytes.now ≡ true) c.is_reserved.result c.at_token-fault.result (fault_at c.args.name.at ReservedName) c.only_if.result
    (λ e. sym c.is_reserved.ensures ∙ e) (λ e. c.is_reserved.ensures ∙ e) c.only_if.ensures c.at_token-fault.ensures
