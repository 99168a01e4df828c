-- The name and the indices.
use Rattle.std.proofs.Common.{subst}
use Rattle.lrc_named_tree.specs.View.{expressions_of, place_of}
use Rattle.lrc_named_expression_faults.specs.Expressions.{IsInIndices}
use Rattle.lrc_named_expression_faults.specs.Fault.{IsFirstOf}
use Rattle.lrc_named_expression_faults.specs.View.{scope_of, sense_seen}
use Rattle.lrc_named_statement_faults.specs.Statements.{IsInTarget, IsReservedTarget}
use Rattle.lrc_named_statement_faults.proofs.Senses.{target_first}
use Rattle.lrc_named_statement_faults.proofs.statements.of_target.Goals as goal

pub returns : goal.returns
returns c =
    let scope = scope_of c.args.scope.now in
    let p = place_of c.args.place.now in
    let inside = subst (λ l. IsFirstOf (λ f. IsInIndices scope (expressions_of l) c.shared_sizes.result.now f) c.in_ok-inside.inside) c.deref.ensures.value c.in_ok-inside.ensures in
    let reserved = subst (λ l. IsFirstOf (λ f. IsReservedTarget (expressions_of l) p.name f) c.reserved_target-reserved.result) c.deref-2.ensures.value c.reserved_target-reserved.ensures in
    let own = subst (λ l. IsFirstOf (λ f. IsInTarget (sense_seen c.sense-sense.result) p.name (expressions_of l) f) c.in_target-own.result) c.deref-3.ensures.value c.in_target-own.ensures in
    target_first scope p (sense_seen c.sense-sense.result) c.shared_sizes.result.now c.reserved_target-reserved.result c.in_target-own.result c.in_ok-inside.inside c.earlier.result c.earlier-2.result
    c.sense-sense.ensures c.shared_sizes.ensures reserved own inside c.earlier.ensures c.earlier-2.ensures
