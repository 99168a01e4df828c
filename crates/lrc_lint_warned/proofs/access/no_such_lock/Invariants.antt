-- What is warned of in the items so far was added.
use Rattle.std.proofs.Common.{◌≡◌, ◌++◌, map, take}
use Rattle.std.specs.List.{flat_map}
use Rattle.lrc_lint_warned.specs.Found.{StatementAt, statement_seen}
use Rattle.lrc_lint_warned.specs.Access.{no_such_lock_at}
use Rattle.lrc_lint_warned.proofs.access.no_such_lock.Given as goal

abbrev pub invariant-loop-s : goal.invariant-loop-s
invariant-loop-s l =
    l.out.items ≡ l.fn.out.items ++ flat_map (λ (s : StatementAt). no_such_lock_at l.locks s.at s.statement) (map statement_seen (take l.s-index l.statements))
