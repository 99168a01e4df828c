-- The statements of the block so far were added.
use Rattle.std.proofs.Common.{◌≡◌, ◌++◌, map, take}
use Rattle.lrc_program.specs.Statements.{block_of, statement_of}
use Rattle.lrc_lint_warned.specs.Inside.{statements_in}
use Rattle.lrc_lint_warned.proofs.inside.+inside.Given as goal

abbrev pub invariant-put_block-loop-statement : goal.invariant-put_block-loop-statement
invariant-put_block-loop-statement l =
    map (λ s. statement_of s.now) l.out.items
    ≡ map (λ s. statement_of s.now) l.initial.out.items ++ statements_in (block_of (take l.statement-index l.block))
