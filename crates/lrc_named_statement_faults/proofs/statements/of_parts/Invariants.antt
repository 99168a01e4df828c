-- The first fault of the parts that the loop has passed.
use Rattle.std.proofs.Common.{drop, map}
use Rattle.lrc_named_expression_faults.specs.Fault.{IsFirstOf}
use Rattle.lrc_named_expression_faults.specs.View.{scope_of}
use Rattle.lrc_named_statement_faults.specs.Parts.{part_seen}
use Rattle.lrc_named_statement_faults.specs.Statements.{IsInParts}
use Rattle.lrc_named_statement_faults.proofs.statements.of_parts.Given as goal

abbrev pub invariant-loop-i : goal.invariant-loop-i
invariant-loop-i l = IsFirstOf (λ f. IsInParts (scope_of l.scope) (map part_seen (drop l.i l.parts)) f) l.first
