-- The first token of the expression.
use Rattle.std.proofs.Common.{ap, ◌∙◌}
use Rattle.lrc_named_expression_faults.specs.declared.fault.FaultKind.TheVariants.{OverLimit}
use Rattle.lrc_named_expression_faults.specs.declared.fault.Limit.TheVariants as limits
use Rattle.lrc_named_expression_faults.specs.Fault.{fault_at}
use Rattle.lrc_named_faults.proofs.values.no_size.Goals as goal

pub returns : goal.returns
returns c = c.at_token.ensures ∙ ap (λ n. fault_at n (OverLimit limits.Size)) c.first.ensures
