-- The list has grown by the names of the expressions that the loop has passed.
use Rattle.std.proofs.Common.{◌≡◌, ◌++◌, map, take}
use Rattle.lrc_named_tree.specs.View.{expressions_of, named_of}
use Rattle.lrc_named_statement_faults.specs.Statements.{names_in_all}
use Rattle.lrc_named_statement_faults.proofs.privates.+names.Given as goal

abbrev pub invariant-push_all_names-loop-expression : goal.invariant-push_all_names-loop-expression
invariant-push_all_names-loop-expression l =
    map named_of l.names.items ≡ map named_of l.initial.names.items ++ names_in_all (expressions_of (take l.expression-index l.expressions))
