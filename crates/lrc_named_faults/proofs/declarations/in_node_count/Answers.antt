-- A second one, or a wrong one.
use Rattle.std.proofs.Common.{◌≡◌, ◌≤◌, ◌+◌, ap, sym, ◌∙◌}
use Rattle.std.specs.Prelude.{IsSome}
use Rattle.lrc_named_expression_faults.specs.declared.fault.FaultKind.TheVariants.{DeclaredTwice, OverLimit}
use Rattle.lrc_named_expression_faults.specs.declared.fault.Limit.TheVariants as limits
use Rattle.lrc_named_expression_faults.specs.Fault.{fault_at}
use Rattle.lrc_named_expression_faults.proofs.First.{joined, where_first}
use Rattle.lrc_named_faults.proofs.Looping.{count_back, count_there, some_back, some_there}
use Rattle.lrc_named_faults.proofs.declarations.in_node_count.Goals as goal

pub returns : goal.returns
returns c =
    let at = c.args.at in
    let n = c.args.count in
    joined (λ f. IsSome c.args.before × (f ≡ fault_at at DeclaredTwice))
    (λ f. (((1 ≤ n) × (n ≤ 16)) → ⊥) × (f ≡ fault_at (at + 1) (OverLimit limits.NodeCount))) c.only_if-second.result c.only_if-over.result c.earlier.result
    c.earlier.ensures
    (where_first (IsSome c.args.before) c.is_some.result c.at_token-twice.result (fault_at at DeclaredTwice) c.only_if-second.result
    (λ e. some_there c.args.before (sym c.is_some.ensures ∙ e)) (λ h. c.is_some.ensures ∙ some_back c.args.before h) c.only_if-second.ensures c.at_token-twice.ensures)
    (where_first (((1 ≤ n) × (n ≤ 16)) → ⊥) c.is_no_count.result _ (fault_at (at + 1) (OverLimit limits.NodeCount)) c.only_if-over.result
    (λ e. count_there n (sym c.is_no_count.ensures ∙ e)) (λ h. c.is_no_count.ensures ∙ count_back n h) c.only_if-over.ensures
    (ap (λ k. fault_at (k + 1) (OverLimit limits.NodeCount)) c.from.ensures))
