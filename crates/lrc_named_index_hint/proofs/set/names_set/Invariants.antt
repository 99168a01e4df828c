-- The names of the parts that the loop has passed.
use Rattle.std.proofs.Common.{◌≡◌, map, take}
use Rattle.lrc_named_tree.specs.View.{named_of}
use Rattle.lrc_named_statement_faults.specs.Parts.{part_seen}
use Rattle.lrc_named_statement_faults.specs.Statements.{set_names}
use Rattle.lrc_named_index_hint.proofs.set.names_set.Given as goal

abbrev pub invariant-loop-part : goal.invariant-loop-part
invariant-loop-part l = map named_of l.names.items ≡ set_names (map part_seen (take l.part-index l.parts))
