-- The indices, what the word is, the value, and then the statement.
use Rattle.std.proofs.Common.{ap, ◌∙◌}
use Rattle.lrc_named_tree.specs.View.{place_of}
use Rattle.lrc_named_tree.specs.View as trees
use Rattle.lrc_named_names.specs.View.{declared_of, item_of}
use Rattle.lrc_named_core.specs.declared.tree.Statement.{Read, Write}
use Rattle.lrc_named_core.specs.Tree.{binary, private, read, write}
use Rattle.lrc_named_core.specs.View.{expression_of, private_of}
use Rattle.lrc_named_statements.specs.Statements.{at_item, holding_place}
use Rattle.lrc_named_statements.proofs.Setting.{write_over_added}
use Rattle.lrc_named_statements.proofs.statements.Statements.write_over.Goals as goal

pub returns : goal.returns
returns c =
    let p = place_of c.args.place.now in
    let n = c.in_ok-number.number in
    let word = expression_of c.in_ok-word.word in
    let v = expression_of c.in_ok-v.v in
    let o = c.args.operator in
    write_over_added (declared_of c.args.self.now.names.now) c.args.held c.place.new.taken n c.expression.new.taken p o
    (item_of c.shared_item-item.result.now) (trees.expression_of c.args.value.now) word v
    (Read c.at_item-origin.result c.in_ok-old.old c.in_ok-again.again) (Write c.at_item-origin.result c.in_ok-word.word c.in_ok-changed.changed)
    c.args.into.now.items c.place.new.into.items c.push.new.self.items c.expression.new.into.items c.push-2.new.self.items
    c.shared_item-item.ensures c.in_ok-number.ensures
    (ap (λ x. read x (private_of c.in_ok-old.old) (expression_of c.in_ok-again.again)) c.at_item-origin.ensures
    ∙ ap (λ x. read (at_item p.name.at p) x (expression_of c.in_ok-again.again)) c.in_ok-old.ensures
    ∙ ap (read (at_item p.name.at p) (holding_place n p)) c.in_ok-again.ensures)
    c.in_ok-push.ensures.items
    (ap (λ x. write x word (expression_of c.in_ok-changed.changed)) c.at_item-origin.ensures
    ∙ ap (write (at_item p.name.at p) word) (c.in_ok-changed.ensures ∙ ap (λ e. binary e o v) c.private.ensures ∙ ap (λ x. binary (private x) o v) c.in_ok-old.ensures))
    c.in_ok-push-2.ensures.items c.in_ok-word.ensures c.in_ok-v.ensures
