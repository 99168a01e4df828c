-- Where a constant has to stand, the body tells; elsewhere there is no fault.
use Rattle.std.proofs.Common.{◌≡◌, true}
use Rattle.lrc_named_names.specs.View.{declared_of}
use Rattle.lrc_named_constants.specs.Well.{bytes_of}
use Rattle.lrc_named_expression_faults.specs.declared.fault.FaultKind.TheVariants.{NotConstant}
use Rattle.lrc_named_expression_faults.specs.Extent.{Varies, before}
use Rattle.lrc_named_expression_faults.specs.Fault.{fault_at}
use Rattle.lrc_named_expression_faults.proofs.First.{when_not, where_first}
use Rattle.lrc_named_expression_faults.proofs.scope.Scope.variable.Goals as goal

pub returns-then-self : goal.returns-then-self
returns-then-self c =
    λ own body means.
    let k = c.args.self.now.is_constant in
    let d = declared_of c.args.self.now.names.now in
    let extent = (c.body_extent-body.ensures own body means).1 in
    where_first ((k ≡ true) × Varies (before d c.args.name.bytes.now) (bytes_of own) body) c.body_extent-body.result.varies c.at_token-fault.result
    (fault_at c.args.name.at NotConstant) c.only_if.result (λ e. (c.if-self.true, extent.varies e)) (λ h. extent.varies_only h.1) c.only_if.ensures c.at_token-fault.ensures

pub returns-else-self : goal.returns-else-self
returns-else-self c =
    λ own body means.
    let k = c.args.self.now.is_constant in
    let d = declared_of c.args.self.now.names.now in
    let no = c.if-self.false in
    when_not ((k ≡ true) × Varies (before d c.args.name.bytes.now) (bytes_of own) body) (fault_at c.args.name.at NotConstant)
    (λ h. let yes : k ≡ true = h.0 in absurd (cc))
