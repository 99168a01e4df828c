-- The address of what the indices are.
use Rattle.std.proofs.Common.{ap, map, ◌∙◌}
use Rattle.lrc_named_tree.specs.View as trees
use Rattle.lrc_named_names.specs.View.{declared_of, item_of}
use Rattle.lrc_named_address.specs.Address.{address}
use Rattle.lrc_named_core.specs.View.{expression_of, origin_of}
use Rattle.lrc_named_statements.proofs.Pushed.{element_added}
use Rattle.lrc_named_statements.proofs.statements.Statements.element.Goals as goal

pub returns : goal.returns
returns c =
    let item = item_of c.args.item.now in
    element_added (declared_of c.args.self.now.names.now) c.args.token (origin_of c.from.result) item
    (trees.expressions_of c.args.indices.now) c.args.taken.now c.all_made.new.taken (map expression_of c.in_ok-cores.cores.items)
    (expression_of c.in_ok-word.word) c.args.into.now.items c.all_made.new.before.items c.from.ensures
    (c.in_ok-word.ensures ∙ ap (λ l. address item (map expression_of l)) c.deref.ensures.value) c.in_ok-cores.ensures
