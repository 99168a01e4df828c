-- The list has grown by the values that the loop has passed.
use Rattle.std.proofs.Common.{◌≡◌, ◌++◌, map, take}
use Rattle.lrc_named_tree.specs.View.{expressions_of}
use Rattle.lrc_named_statement_faults.specs.Parts.{part_seen, parts_of_values}
use Rattle.lrc_named_statement_faults.proofs.parts.push_values.Given as goal

abbrev pub invariant-loop-value : goal.invariant-loop-value
invariant-loop-value l =
    map part_seen l.parts.items ≡ map part_seen l.initial.parts.items ++ parts_of_values (expressions_of (take l.value-index l.values))
