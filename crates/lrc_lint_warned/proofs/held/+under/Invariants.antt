-- The statements of the block so far were looked at, and what stands behind them is known.
use Rattle.std.proofs.Common.{◌≡◌, ◌++◌, length, map, take}
use Rattle.lrc_program.specs.Statements.{block_of}
use Rattle.lrc_lint_warned.specs.Held.{Path, is_under, paths}
use Rattle.lrc_lint_warned.specs.Inside.{statements_in}
use Rattle.lrc_lint_warned.specs.Undone.{AreMarked}
use Rattle.lrc_lint_warned.proofs.Under.{behind_all}
use Rattle.lrc_lint_warned.proofs.held.+under.Given as goal

abbrev pub invariant-put_block-loop-s : goal.invariant-put_block-loop-s
invariant-put_block-loop-s l =
    (path : Path) → l.fn.start ≡ is_under l.side l.lock path
    → AreMarked l.side l.lock l.marks (length l.initial.out.items) (statements_in (block_of l.block))
    → (l.under ≡ is_under l.side l.lock (behind_all path (take l.s-index l.block)))
    × (l.out.items ≡ l.initial.out.items ++ map (is_under l.side l.lock) (paths path (block_of (take l.s-index l.block))))
