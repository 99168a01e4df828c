-- What is warned of, by the numbers so far, was added.
use Rattle.std.proofs.Common.{◌≡◌, ◌++◌, map}
use Rattle.std.specs.List.{flat_map, range_with_len}
use Rattle.lrc_lint_warned.specs.Found.{statement_seen}
use Rattle.lrc_lint_warned.specs.Locks.{never_released_of}
use Rattle.lrc_lint_warned.proofs.locks.never_released.Given as goal

abbrev pub invariant-loop-lock : goal.invariant-loop-lock
invariant-loop-lock l = l.out.items ≡ l.fn.out.items ++ flat_map (never_released_of (map statement_seen l.statements)) (range_with_len 0 l.lock)
