-- One thing is known of the expression: its value, or that it has none.
use Rattle.std.proofs.Common.{map, sym, subst}
use Rattle.lrc_named_tree.specs.View.{expression_of}
use Rattle.lrc_named_names.specs.View.{declared_of}
use Rattle.lrc_named_constants.specs.Constant.{IsConstancy, names_of}
use Rattle.lrc_named_constants.specs.View.{known_of}
use Rattle.lrc_named_constants.specs.Well.{IsWell}
use Rattle.lrc_named_expression_faults.proofs.Inside.{no_value}
use Rattle.lrc_named_expression_faults.specs.View.{scope_of}
use Rattle.lrc_named_constants.specs.declared.constancy.Constancy.TheVariants.{Undefined, Varies}
use Rattle.lrc_named_expression_faults.proofs.scope.Scope.value.Goals as goal

pub constancy-requires-clause-well : goal.constancy-requires-clause-well
constancy-requires-clause-well c =
    subst (λ n. IsWell (declared_of c.args.self.now.names.now) (names_of (map known_of c.args.self.now.known.now)) n (expression_of c.args.expression.now))
    (sym c.count.ensures) c.requires.well

pub returns-in-Value : goal.returns-in-Value
returns-in-Value c =
    subst (λ w. IsConstancy (declared_of c.args.self.now.names.now) (map known_of c.args.self.now.known.now) (expression_of c.args.expression.now) w)
    c.in-Value.is c.in_ok-constancy.ensures

pub returns-in-Varies : goal.returns-in-Varies
returns-in-Varies c =
    no_value (scope_of c.args.self.now) (expression_of c.args.expression.now) Varies (λ v e. absurd (cc))
    (subst (λ w. IsConstancy (declared_of c.args.self.now.names.now) (map known_of c.args.self.now.known.now) (expression_of c.args.expression.now) w)
    c.in-Varies.is c.in_ok-constancy.ensures)

pub returns-in-Undefined : goal.returns-in-Undefined
returns-in-Undefined c =
    no_value (scope_of c.args.self.now) (expression_of c.args.expression.now) Undefined (λ v e. absurd (cc))
    (subst (λ w. IsConstancy (declared_of c.args.self.now.names.now) (map known_of c.args.self.now.known.now) (expression_of c.args.expression.now) w)
    c.in-Undefined.is c.in_ok-constancy.ensures)
