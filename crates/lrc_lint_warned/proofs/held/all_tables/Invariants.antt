-- There is a table for each of the locks so far.
use Rattle.std.proofs.Common.{◌≡◌, [], map}
use Rattle.std.specs.List.{range_with_len}
use Rattle.lrc_program.specs.Statements.{block_of}
use Rattle.lrc_lint_warned.specs.declared.held.Side.TheVariants.{Acquired}
use Rattle.lrc_lint_warned.specs.Held.{is_under, paths}
use Rattle.lrc_lint_warned.proofs.held.all_tables.Given as goal

abbrev pub invariant-loop-lock : goal.invariant-loop-lock
invariant-loop-lock l =
    map (λ t. t.items) l.tables.items ≡ map (λ lock. map (is_under Acquired lock) (paths [] (block_of l.block))) (range_with_len 0 l.lock)
