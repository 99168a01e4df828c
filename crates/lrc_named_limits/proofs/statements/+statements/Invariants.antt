-- The first that is over a limit of the statements that the loop has passed.
use Rattle.std.proofs.Common.{drop}
use Rattle.lrc_named_core.specs.View.{block_of}
use Rattle.lrc_named_limits.specs.Limits.{IsFirstOf, IsOverInBlock}
use Rattle.lrc_named_limits.proofs.statements.+statements.Given as goal

abbrev pub invariant-of_statements-loop-i : goal.invariant-of_statements-loop-i
invariant-of_statements-loop-i l = IsFirstOf (λ x. IsOverInBlock l.privates l.depth (block_of (drop l.i l.statements)) x) l.first
