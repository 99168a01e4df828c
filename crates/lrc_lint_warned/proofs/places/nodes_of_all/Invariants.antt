-- The parts of the statements so far were added.
use Rattle.std.proofs.Common.{◌≡◌, map, take}
use Rattle.std.specs.List.{flat_map}
use Rattle.lrc_program.specs.Statements.{expression_of, statement_of}
use Rattle.lrc_lint_warned.specs.Inside.{nodes_of}
use Rattle.lrc_lint_warned.proofs.places.nodes_of_all.Given as goal

abbrev pub invariant-loop-s : goal.invariant-loop-s
invariant-loop-s l = map (λ n. expression_of n.now) l.nodes.items ≡ flat_map nodes_of (map (λ s. statement_of s.now) (take l.s-index l.statements))
