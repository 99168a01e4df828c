-- The list has grown by the statements that a loop has passed.
use Rattle.std.proofs.Common.{◌≡◌, ◌++◌, map, take}
use Rattle.lrc_named_tree.specs.View.{block_of}
use Rattle.lrc_named_statement_faults.specs.Parts.{arms_of, part_seen, parts_of_arms, parts_of_block}
use Rattle.lrc_named_statement_faults.proofs.parts.+parts.Given as goal

abbrev pub invariant-push_parts-loop-statement : goal.invariant-push_parts-loop-statement
invariant-push_parts-loop-statement l =
    map part_seen l.parts.items ≡ map part_seen l.initial.parts.items ++ parts_of_block (block_of (take l.statement-index l.statements))

abbrev pub invariant-push_arms-loop-arm : goal.invariant-push_arms-loop-arm
invariant-push_arms-loop-arm l =
    map part_seen l.parts.items ≡ map part_seen l.initial.parts.items ++ parts_of_arms (arms_of (take l.arm-index l.arms))
