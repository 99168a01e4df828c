-- What is warned of, by the locks so far, was added.
use Rattle.std.proofs.Common.{◌≡◌, ◌++◌, [], map}
use Rattle.std.specs.List.{flat_map, range_with_len}
use Rattle.lrc_program.specs.Statements.{block_of}
use Rattle.lrc_lint_warned.specs.Found.{statement_seen}
use Rattle.lrc_lint_warned.specs.Held.{not_held_at, paths, with_path}
use Rattle.lrc_lint_warned.proofs.held.not_held.Given as goal

abbrev pub invariant-loop-lock : goal.invariant-loop-lock
invariant-loop-lock l = l.out.items ≡ l.fn.out.items
    ++ flat_map (λ lock. with_path (not_held_at lock) (map statement_seen l.statements) (paths [] (block_of l.block))) (range_with_len 0 l.lock)
