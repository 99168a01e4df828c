-- The parameters that the loop has passed.
use Rattle.std.proofs.Common.{◌≡◌, map, take}
use Rattle.lrc_named_tree.specs.View.{named_of}
use Rattle.lrc_named_constants.specs.View.{known_of}
use Rattle.lrc_named_faults.specs.Declarations.{varying}
use Rattle.lrc_named_index_hint.proofs.outside.varying.Given as goal

abbrev pub invariant-loop-parameter : goal.invariant-loop-parameter
invariant-loop-parameter l = map known_of l.known.items ≡ varying (map named_of (take l.parameter-index l.parameters))
