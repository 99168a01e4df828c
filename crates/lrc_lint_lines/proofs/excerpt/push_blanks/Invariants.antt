use Rattle.std.proofs.Common.{◌≡◌, ◌≤◌, ◌-◌, ◌++◌, replicate}
use Rattle.lrc_lint_lines.proofs.excerpt.push_blanks.Given as goal

-- the blanks so far
abbrev pub invariant-loop-added : goal.invariant-loop-added
invariant-loop-added l = (l.out.items ≡ l.fn.out.items ++ replicate l.added 32) × (l.added ≤ l.count)

abbrev pub decreases-loop-added : goal.decreases-loop-added
decreases-loop-added l = l.count - l.added
