-- By the kind of the part.
use Rattle.std.proofs.Common.{sym, subst}
use Rattle.std.specs.Prelude.{IfOk}
use Rattle.lrc_named_tree.specs.View.{named_of}
use Rattle.lrc_named_expression_faults.specs.Fault.{IsFirstOf}
use Rattle.lrc_named_expression_faults.specs.Scope.{sense_of}
use Rattle.lrc_named_expression_faults.specs.View.{scope_of, sense_seen}
use Rattle.lrc_named_statement_faults.specs.Parts.{part_seen}
use Rattle.lrc_named_statement_faults.specs.Statements.{IsInCounter, IsInPart, IsReserved}
use Rattle.lrc_named_expression_faults.proofs.First.{joined}
use Rattle.lrc_named_statement_faults.proofs.Senses.{counter_as}
use Rattle.lrc_named_statement_faults.proofs.statements.of_part.Goals as goal

pub returns-in-Target : goal.returns-in-Target
returns-in-Target c =
    subst (λ p. IfOk c.of_target.result (λ found. IsFirstOf (λ f. IsInPart (scope_of c.args.scope.now) (part_seen p) f) found)) (sym c.in-Target.is) c.of_target.ensures

pub returns-in-Lock : goal.returns-in-Lock
returns-in-Lock c =
    subst (λ p. IfOk c.of_lock.result (λ found. IsFirstOf (λ f. IsInPart (scope_of c.args.scope.now) (part_seen p) f) found)) (sym c.in-Lock.is) c.of_lock.ensures

pub returns-in-Counter : goal.returns-in-Counter
returns-in-Counter c =
    let scope = scope_of c.args.scope.now in
    let named = named_of c.in-Counter.name in
    subst (λ p. IsFirstOf (λ f. IsInPart scope (part_seen p) f) c.earlier.result) (sym c.in-Counter.is)
    (joined (λ f. IsReserved named f) (λ f. IsInCounter (sense_of scope named.bytes) named f) c.reserved.result c.in_counter-own.result c.earlier.result c.earlier.ensures
    c.reserved.ensures (counter_as named (sense_of scope named.bytes) (sense_seen c.sense.result) c.in_counter-own.result (sym c.sense.ensures) c.in_counter-own.ensures))

pub returns-in-Value : goal.returns-in-Value
returns-in-Value c =
    subst (λ p. IfOk c.expression.result (λ found. IsFirstOf (λ f. IsInPart (scope_of c.args.scope.now) (part_seen p) f) found)) (sym c.in-Value.is) c.expression.ensures
