-- The names so far are others.
use Rattle.std.proofs.Common.{◌≡◌, map, drop}
use Rattle.lrc_named_tree.specs.View.{named_of}
use Rattle.lrc_named_constants.specs.Well.{bytes_of, is_among}
use Rattle.lrc_named_expression_faults.proofs.scope.is_one_of.Given as goal

abbrev pub invariant-loop-one : goal.invariant-loop-one
invariant-loop-one l = is_among (bytes_of (map named_of (drop l.one-index l.names))) l.name ≡ is_among (bytes_of (map named_of l.names)) l.name
