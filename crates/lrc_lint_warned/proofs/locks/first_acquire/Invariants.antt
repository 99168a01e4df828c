-- What is looked for is found from here on, if anywhere.
use Rattle.std.proofs.Common.{◌≡◌, map, drop}
use Rattle.std.specs.Prelude.{find}
use Rattle.lrc_lint_warned.specs.Found.{StatementAt, statement_seen}
use Rattle.lrc_lint_warned.specs.Locks.{acquires}
use Rattle.lrc_lint_warned.proofs.locks.first_acquire.Given as goal

abbrev pub invariant-loop-s : goal.invariant-loop-s
invariant-loop-s l =
    find (λ (s : StatementAt). acquires l.lock s.statement) (map statement_seen l.statements) ≡ find (λ (s : StatementAt). acquires l.lock s.statement) (map statement_seen (drop l.s-index l.statements))
