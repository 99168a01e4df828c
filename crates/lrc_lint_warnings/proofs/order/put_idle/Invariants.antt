-- The warnings of the label lines so far were added.
use Rattle.std.proofs.Common.{◌≡◌, ◌++◌, map, take}
use Rattle.lrc_lint_warnings.specs.Order.{of_idle}
use Rattle.lrc_lint_warnings.proofs.order.put_idle.Given as goal

abbrev pub invariant-loop-label : goal.invariant-loop-label
invariant-loop-label l = l.all.items ≡ l.fn.all.items ++ map of_idle (take l.label-index l.idle)
