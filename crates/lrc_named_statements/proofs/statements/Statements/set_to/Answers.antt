-- The value, and then the statement.
use Rattle.std.proofs.Common.{ap}
use Rattle.lrc_named_tree.specs.View.{place_of}
use Rattle.lrc_named_tree.specs.View as trees
use Rattle.lrc_named_names.specs.View.{declared_of}
use Rattle.lrc_named_core.specs.declared.tree.Statement.{Assign}
use Rattle.lrc_named_core.specs.declared.tree.Private.TheVariants.{Named}
use Rattle.lrc_named_core.specs.Tree.{assign, named}
use Rattle.lrc_named_core.specs.View.{expression_of}
use Rattle.lrc_named_statements.proofs.Setting.{set_added}
use Rattle.lrc_named_statements.proofs.statements.Statements.set_to.Goals as goal

pub returns : goal.returns
returns c =
    let p = place_of c.args.place.now in
    set_added (declared_of c.args.self.now.names.now) c.args.held c.expression.new.taken p
    (trees.expression_of c.args.value.now) (expression_of c.in_ok-v.v)
    (Assign c.from-origin.result (Named c.args.place.now.name.bytes) c.in_ok-v.v)
    c.args.into.now.items c.expression.new.into.items c.push.new.self.items c.requires.private c.requires.alone
    (ap (λ x. assign x (named p.name.bytes) (expression_of c.in_ok-v.v)) c.from-origin.ensures)
    c.in_ok-push.ensures.items c.in_ok-v.ensures
