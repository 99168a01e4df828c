-- What was joined so far, and then what is joined of the rest.
use Rattle.std.proofs.Common.{◌≡◌, ◌++◌, map, drop}
use Rattle.std.specs.List.{zip}
use Rattle.lrc_program.specs.Statements.{statement_of}
use Rattle.lrc_lint_warned.specs.Found.{statement_seen}
use Rattle.lrc_lint_warned.specs.Places.{statement_at}
use Rattle.lrc_lint_warned.proofs.places.zip_statements.Given as goal

abbrev pub invariant-loop-i : goal.invariant-loop-i
invariant-loop-i l =
    map statement_at (zip l.places (map (λ x. statement_of x.now) l.all))
    ≡ map statement_seen l.found.items ++ map statement_at (zip (drop l.i l.places) (map (λ x. statement_of x.now) (drop l.i l.all)))
