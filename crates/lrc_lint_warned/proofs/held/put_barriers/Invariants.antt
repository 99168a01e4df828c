-- What is warned of in the statements so far was added.
use Rattle.std.proofs.Common.{◌≡◌, ◌++◌, map, take}
use Rattle.lrc_text.specs.Each.{each}
use Rattle.lrc_lint_warned.specs.Found.{statement_seen}
use Rattle.lrc_lint_warned.specs.Held.{barrier_by}
use Rattle.lrc_lint_warned.proofs.held.put_barriers.Given as goal

abbrev pub invariant-loop-i : goal.invariant-loop-i
invariant-loop-i l = l.out.items ≡ l.fn.out.items ++ each (barrier_by (map (λ t. t.items) l.tables)) (take l.i (map statement_seen l.statements))
