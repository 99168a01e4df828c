-- The list has grown by what the statements do that a loop has passed.
use Rattle.std.proofs.Common.{◌≡◌, ◌++◌, map, take}
use Rattle.lrc_named_tree.specs.View.{block_of}
use Rattle.lrc_named_statement_faults.specs.Parts.{arms_of}
use Rattle.lrc_named_uses.specs.Deeds.{deed_seen, deeds_in, deeds_of_arms}
use Rattle.lrc_named_uses.proofs.deeds.+deeds.Given as goal

abbrev pub invariant-put_block-loop-statement : goal.invariant-put_block-loop-statement
invariant-put_block-loop-statement l =
    map deed_seen l.deeds.items ≡ map deed_seen l.initial.deeds.items ++ deeds_in (block_of (take l.statement-index l.block))

abbrev pub invariant-put_arms-loop-arm : goal.invariant-put_arms-loop-arm
invariant-put_arms-loop-arm l =
    map deed_seen l.deeds.items ≡ map deed_seen l.initial.deeds.items ++ deeds_of_arms (arms_of (take l.arm-index l.arms))
