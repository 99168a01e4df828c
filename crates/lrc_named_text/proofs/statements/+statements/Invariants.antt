-- The text has grown by the statements that the loop has passed.
use Rattle.std.proofs.Common.{◌≡◌, ◌++◌, take}
use Rattle.lrc_named_core.specs.View.{block_of}
use Rattle.lrc_named_text.specs.Statements.{block_text}
use Rattle.lrc_named_text.proofs.statements.+statements.Given as goal

abbrev pub invariant-push_block-loop-statement : goal.invariant-push_block-loop-statement
invariant-push_block-loop-statement l =
    l.text.items ≡ l.initial.text.items ++ block_text l.lines l.indent (block_of (take l.statement-index l.statements))
