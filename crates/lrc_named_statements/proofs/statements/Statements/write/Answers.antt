-- The indices, the value, and then the statement.
use Rattle.std.proofs.Common.{ap}
use Rattle.lrc_named_tree.specs.View.{place_of}
use Rattle.lrc_named_tree.specs.View as trees
use Rattle.lrc_named_names.specs.View.{declared_of, item_of}
use Rattle.lrc_named_core.specs.declared.tree.Statement.{Write}
use Rattle.lrc_named_core.specs.Tree.{write}
use Rattle.lrc_named_core.specs.View.{expression_of}
use Rattle.lrc_named_statements.proofs.Setting.{write_added}
use Rattle.lrc_named_statements.proofs.statements.Statements.write.Goals as goal

pub returns : goal.returns
returns c =
    write_added (declared_of c.args.self.now.names.now) c.args.held c.place.new.taken c.expression.new.taken (place_of c.args.place.now)
    (item_of c.shared_item-item.result.now) (trees.expression_of c.args.value.now) (expression_of c.in_ok-word.word) (expression_of c.in_ok-v.v)
    (Write c.at_item-origin.result c.in_ok-word.word c.in_ok-v.v)
    c.args.into.now.items c.place.new.into.items c.expression.new.into.items c.push.new.self.items c.shared_item-item.ensures
    (ap (λ o. write o (expression_of c.in_ok-word.word) (expression_of c.in_ok-v.v)) c.at_item-origin.ensures)
    c.in_ok-push.ensures.items c.in_ok-word.ensures c.in_ok-v.ensures
