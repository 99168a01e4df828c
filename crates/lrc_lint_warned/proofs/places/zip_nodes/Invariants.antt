-- What was joined so far, and then what is joined of the rest.
use Rattle.std.proofs.Common.{◌≡◌, ◌++◌, map, drop}
use Rattle.std.specs.List.{zip}
use Rattle.lrc_program.specs.Statements.{expression_of}
use Rattle.lrc_lint_warned.specs.Found.{node_seen}
use Rattle.lrc_lint_warned.specs.Places.{node_at}
use Rattle.lrc_lint_warned.proofs.places.zip_nodes.Given as goal

abbrev pub invariant-loop-i : goal.invariant-loop-i
invariant-loop-i l =
    map node_at (zip l.places (map (λ x. expression_of x.now) l.all))
    ≡ map node_seen l.found.items ++ map node_at (zip (drop l.i l.places) (map (λ x. expression_of x.now) (drop l.i l.all)))
