-- What the loop has passed is printed.
use Rattle.std.proofs.Common.{take}
use Rattle.lrc_named_tree.specs.View.{expressions_of}
use Rattle.lrc_named_names.specs.View.{declared_of}
use Rattle.lrc_named_translation.specs.Added.{IsAdded}
use Rattle.lrc_named_statements.specs.Statements.{ArePrinted}
use Rattle.lrc_named_statements.proofs.statements.Statements.print.Given as goal

abbrev pub invariant-loop-value : goal.invariant-loop-value
invariant-loop-value l =
    IsAdded (ArePrinted (declared_of l.self.names.now) l.held l.token (expressions_of (take l.value-index l.values))) l.initial.into.items l.into.items
