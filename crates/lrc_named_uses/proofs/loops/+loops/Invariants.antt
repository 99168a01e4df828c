-- The list has grown by the loops in the statements that a loop has passed.
use Rattle.std.proofs.Common.{◌≡◌, ◌++◌, map, take}
use Rattle.lrc_named_tokens.specs.View.{located_of}
use Rattle.lrc_named_tree.specs.View.{block_of}
use Rattle.lrc_named_names.specs.View.{declared_of}
use Rattle.lrc_named_statement_faults.specs.Parts.{arms_of}
use Rattle.lrc_named_uses.specs.Loops.{loops_in, loops_of_arms}
use Rattle.lrc_named_uses.proofs.loops.+loops.Given as goal

abbrev pub invariant-put_block-loop-statement : goal.invariant-put_block-loop-statement
invariant-put_block-loop-statement l =
    l.loops.items ≡ l.initial.loops.items ++ loops_in (declared_of l.names) (map located_of l.tokens) (block_of (take l.statement-index l.block))

abbrev pub invariant-put_arms-loop-arm : goal.invariant-put_arms-loop-arm
invariant-put_arms-loop-arm l =
    l.loops.items ≡ l.initial.loops.items ++ loops_of_arms (declared_of l.names) (map located_of l.tokens) (arms_of (take l.arm-index l.arms))
