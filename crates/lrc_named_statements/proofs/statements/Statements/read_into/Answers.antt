-- The indices, and then the statement.
use Rattle.std.proofs.Common.{ap, ◌∙◌}
use Rattle.lrc_named_tree.specs.View.{named_of, place_of}
use Rattle.lrc_named_tree.specs.View as trees
use Rattle.lrc_named_names.specs.View.{declared_of, item_of}
use Rattle.lrc_named_core.specs.declared.tree.Statement.{Read}
use Rattle.lrc_named_core.specs.declared.tree.Private.TheVariants.{Named}
use Rattle.lrc_named_core.specs.Tree.{named, read}
use Rattle.lrc_named_core.specs.View.{expression_of}
use Rattle.lrc_named_translation.specs.Made.{using_item}
use Rattle.lrc_named_statements.proofs.Setting.{read_into_added}
use Rattle.lrc_named_statements.proofs.statements.Statements.read_into.Goals as goal

pub returns : goal.returns
returns c =
    let p = place_of c.args.place.now in
    let indices = trees.expressions_of c.args.element.indices.now in
    let word = expression_of c.in_ok-word.word in
    read_into_added (declared_of c.args.self.now.names.now) c.args.held c.element.new.taken c.args.element.last p (named_of c.args.element.name) indices
    (item_of c.shared_item-item.result.now) word (Read c.using_item-origin.result (Named c.args.place.now.name.bytes) c.in_ok-word.word)
    c.args.into.now.items c.element.new.into.items c.push.new.self.items c.requires.private c.shared_item-item.ensures
    (ap (λ x. read x (named p.name.bytes) word) (c.using_item-origin.ensures ∙ ap (λ x. using_item x c.args.element.name.bytes.now indices) c.from-from_here.ensures))
    c.in_ok-push.ensures.items c.in_ok-word.ensures
