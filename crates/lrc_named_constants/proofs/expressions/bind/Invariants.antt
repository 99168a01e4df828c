-- The parameters so far, and those that are left.
use Rattle.std.proofs.Common.{◌≡◌, ◌++◌, map, drop}
use Rattle.lrc_named_tree.specs.View.{named_of}
use Rattle.lrc_named_constants.specs.Constant.{bound}
use Rattle.lrc_named_constants.specs.View.{known_of}
use Rattle.lrc_named_constants.proofs.expressions.bind.Given as goal

abbrev pub invariant-loop-i : goal.invariant-loop-i
invariant-loop-i l =
    map known_of l.known.items ++ bound (map named_of (drop l.i l.parameters)) (drop l.i l.constancies) ≡ bound (map named_of l.parameters) l.constancies
