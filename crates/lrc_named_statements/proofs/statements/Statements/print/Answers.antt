-- One value more is printed.
use Rattle.std.proofs.Common.{ap, sym, subst}
use Rattle.std.specs.Prelude.{[], length}
use Rattle.lrc_named_tree.specs.View as trees
use Rattle.lrc_named_names.specs.View.{declared_of}
use Rattle.lrc_named_constants.specs.Well.{IsWell}
use Rattle.lrc_named_constants.proofs.Each.{well_at}
use Rattle.lrc_named_core.specs.declared.tree.Statement.{Print}
use Rattle.lrc_named_core.specs.Tree.{print}
use Rattle.lrc_named_core.specs.View.{expression_of}
use Rattle.lrc_named_statements.proofs.Pushed.{printed_none, printed_step}
use Rattle.lrc_named_statements.proofs.statements.Statements.print.Goals as goal

pub loop-value-init : goal.loop-value-init
loop-value-init c = printed_none (declared_of c.args.self.now.names.now) c.args.held c.args.token c.args.into.now.items

pub expression-requires-clause-well : goal.expression-requires-clause-well
expression-requires-clause-well c =
    let declared = declared_of c.args.self.now.names.now in
    subst (λ y. IsWell declared [] (length declared) (trees.expression_of y)) (sym c.value-item.is)
    (well_at declared [] (length declared) c.args.values.now c.loop-value.value-index c.value-item.result c.loop-value-test.true c.requires.well)

pub loop-value-preserved : goal.loop-value-preserved
loop-value-preserved c =
    printed_step (declared_of c.args.self.now.names.now) c.args.held c.args.token c.expression.new.taken c.args.values.now c.loop-value.value-index
    c.value-item.result (expression_of c.in_ok-p.p) (Print c.from-origin.result c.in_ok-p.p) c.args.into.now.items c.loop-value.into.items
    c.expression.new.into.items c.push.new.self.items c.loop-value-test.true c.value-item.is
    (ap (λ o. print o (expression_of c.in_ok-p.p)) c.from-origin.ensures) c.in_ok-push.ensures.items c.loop-value.invariant c.in_ok-p.ensures
