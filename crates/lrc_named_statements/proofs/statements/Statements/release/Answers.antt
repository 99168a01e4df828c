-- The lock's number, and then the statement.
use Rattle.std.proofs.Common.{ap}
use Rattle.lrc_named_tree.specs.View.{place_of}
use Rattle.lrc_named_names.specs.View.{declared_of, item_of}
use Rattle.lrc_named_core.specs.declared.tree.Statement.{Release}
use Rattle.lrc_named_core.specs.Tree.{release}
use Rattle.lrc_named_core.specs.View.{expression_of}
use Rattle.lrc_named_statements.proofs.Pushed.{release_added}
use Rattle.lrc_named_statements.proofs.statements.Statements.release.Goals as goal

pub returns : goal.returns
returns c =
    release_added (declared_of c.args.self.now.names.now) c.args.held c.args.token c.place.new.taken (place_of c.args.place.now)
    (item_of c.lock_item-item.result.now) (expression_of c.in_ok-number.number) (Release c.at_item-origin.result c.in_ok-number.number)
    c.args.into.now.items c.place.new.into.items c.push.new.self.items c.lock_item-item.ensures
    (ap (λ o. release o (expression_of c.in_ok-number.number)) c.at_item-origin.ensures) c.in_ok-push.ensures.items c.in_ok-number.ensures
