-- The lock's number, and then the statement.
use Rattle.std.proofs.Common.{ap}
use Rattle.lrc_named_tree.specs.View.{place_of}
use Rattle.lrc_named_names.specs.View.{declared_of, item_of}
use Rattle.lrc_named_core.specs.declared.tree.Statement.{Acquire}
use Rattle.lrc_named_core.specs.Tree.{acquire}
use Rattle.lrc_named_core.specs.View.{expression_of}
use Rattle.lrc_named_statements.proofs.Pushed.{acquire_added}
use Rattle.lrc_named_statements.proofs.statements.Statements.acquire.Goals as goal

pub returns : goal.returns
returns c =
    acquire_added (declared_of c.args.self.now.names.now) c.args.held c.args.token c.place.new.taken (place_of c.args.place.now)
    (item_of c.lock_item-item.result.now) (expression_of c.in_ok-number.number) (Acquire c.at_item-origin.result c.in_ok-number.number)
    c.args.into.now.items c.place.new.into.items c.push.new.self.items c.lock_item-item.ensures
    (ap (λ o. acquire o (expression_of c.in_ok-number.number)) c.at_item-origin.ensures) c.in_ok-push.ensures.items c.in_ok-number.ensures
