-- A shared item.
use Rattle.std.proofs.Common.{ap, sym, ◌∙◌}
use Rattle.lrc_named_tree.specs.Tree as tree
use Rattle.lrc_named_tree.specs.View.{expression_of, expressions_of, named_of}
use Rattle.lrc_named_names.specs.Names.{meaning_of}
use Rattle.lrc_named_names.specs.View.{declared_of}
use Rattle.lrc_named_constants.proofs.Rows.{row_of_hidden}
use Rattle.lrc_named_statements.proofs.Wells.{shared_true}
use Rattle.lrc_named_statements.proofs.statements.shared_element.Goals as goal

pub returns-then-is_shared : goal.returns-then-is_shared
returns-then-is_shared c = (
  ap expression_of c.in-Element.is
      ∙ ap (λ l. tree.element (named_of c.in-Element.name) l c.in-Element.last) (row_of_hidden c.in-Element.indices ∙ ap expressions_of (sym c.deref.ensures.value)),
  shared_true (meaning_of (declared_of c.args.names.now) c.in-Element.name.bytes.now) (sym c.is_shared.ensures ∙ c.if-is_shared.true),
)
