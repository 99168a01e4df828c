-- What is left leads to the last.
use Rattle.std.proofs.Common.{◌≡◌, drop}
use Rattle.lrc_named_tree.specs.View.{expressions_of}
use Rattle.lrc_named_statements.specs.Statements.{last_index}
use Rattle.lrc_named_statements.proofs.origins.last_index.Given as goal

abbrev pub invariant-loop-index : goal.invariant-loop-index
invariant-loop-index l = last_index l.last (expressions_of (drop l.index-index l.indices)) ≡ last_index l.at (expressions_of l.indices)
