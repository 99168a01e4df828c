-- The name and the indices.
use Rattle.std.proofs.Common.{subst}
use Rattle.lrc_named_tree.specs.View.{expressions_of, place_of}
use Rattle.lrc_named_expression_faults.specs.Expressions.{IsInIndices}
use Rattle.lrc_named_expression_faults.specs.Fault.{IsFirstOf}
use Rattle.lrc_named_expression_faults.specs.View.{scope_of, sense_seen}
use Rattle.lrc_named_statement_faults.specs.Statements.{IsInLock}
use Rattle.lrc_named_statement_faults.proofs.Senses.{lock_first}
use Rattle.lrc_named_statement_faults.proofs.statements.of_lock.Goals as goal

pub returns : goal.returns
returns c =
    let scope = scope_of c.args.scope.now in
    let p = place_of c.args.place.now in
    let inside = subst (λ l. IsFirstOf (λ f. IsInIndices scope (expressions_of l) c.lock_sizes.result.now f) c.in_ok-inside.inside) c.deref.ensures.value c.in_ok-inside.ensures in
    let own = subst (λ l. IsFirstOf (λ f. IsInLock (sense_seen c.sense-sense.result) p.name (expressions_of l) f) c.in_lock-own.result) c.deref-2.ensures.value c.in_lock-own.ensures in
    lock_first scope p (sense_seen c.sense-sense.result) c.lock_sizes.result.now c.in_lock-own.result c.in_ok-inside.inside c.earlier.result
    c.sense-sense.ensures c.lock_sizes.ensures own inside c.earlier.ensures
