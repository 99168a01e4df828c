-- The value, and then the statement.
use Rattle.std.proofs.Common.{ap, ◌∙◌}
use Rattle.lrc_named_tree.specs.View.{place_of}
use Rattle.lrc_named_tree.specs.View as trees
use Rattle.lrc_named_names.specs.View.{declared_of}
use Rattle.lrc_named_core.specs.declared.tree.Statement.{Assign}
use Rattle.lrc_named_core.specs.declared.tree.Private.TheVariants.{Named}
use Rattle.lrc_named_core.specs.Tree.{assign, binary, named}
use Rattle.lrc_named_core.specs.View.{expression_of}
use Rattle.lrc_named_statements.specs.Statements.{from}
use Rattle.lrc_named_statements.proofs.Setting.{change_added}
use Rattle.lrc_named_statements.proofs.statements.Statements.change.Goals as goal

pub returns : goal.returns
returns c =
    let p = place_of c.args.place.now in
    change_added (declared_of c.args.self.now.names.now) c.args.held c.expression.new.taken p c.args.operator
    (trees.expression_of c.args.value.now) (expression_of c.in_ok-v.v)
    (Assign c.from-origin.result (Named c.args.place.now.name.bytes) c.in_ok-changed.changed)
    c.args.into.now.items c.expression.new.into.items c.push.new.self.items c.requires.private
    (ap (λ x. assign x (named p.name.bytes) (expression_of c.in_ok-changed.changed)) c.from-origin.ensures
    ∙ ap (assign (from p.name.at) (named p.name.bytes))
    (c.in_ok-changed.ensures ∙ ap (λ e. binary e c.args.operator (expression_of c.in_ok-v.v)) c.private.ensures))
    c.in_ok-push.ensures.items c.in_ok-v.ensures
