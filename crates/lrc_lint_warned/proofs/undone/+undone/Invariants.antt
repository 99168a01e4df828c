-- The marks of the statements of the block so far were made, and it is known whether one of these undoes something.
use Rattle.std.proofs.Common.{◌≡◌, ◌++◌, take}
use Rattle.lrc_program.specs.Statements.{block_of}
use Rattle.lrc_lint_warned.specs.Inside.{statements_in}
use Rattle.lrc_lint_warned.proofs.Marks.{marks_of, some_in}
use Rattle.lrc_lint_warned.proofs.undone.+undone.Given as goal

abbrev pub invariant-put_undone-loop-s : goal.invariant-put_undone-loop-s
invariant-put_undone-loop-s l =
    (l.out.items ≡ l.initial.out.items ++ marks_of l.side l.lock (statements_in (block_of (take l.s-index l.block))))
    × (l.some ≡ some_in l.side l.lock (statements_in (block_of (take l.s-index l.block))))
