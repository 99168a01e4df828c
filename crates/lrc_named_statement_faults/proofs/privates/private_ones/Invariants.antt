-- Those of the names that the loop has passed.
use Rattle.std.proofs.Common.{◌≡◌, map, take}
use Rattle.lrc_named_tree.specs.View.{named_of}
use Rattle.lrc_named_expression_faults.specs.View.{scope_of}
use Rattle.lrc_named_statement_faults.specs.Statements.{private_names}
use Rattle.lrc_named_statement_faults.proofs.privates.private_ones.Given as goal

abbrev pub invariant-loop-name : goal.invariant-loop-name
invariant-loop-name l = map named_of l.all.items ≡ private_names (scope_of l.scope) (map named_of (take l.name-index l.names))
