-- The first fault of the parameters that the loop has passed.
use Rattle.std.proofs.Common.{◌∷◌, drop, map, take}
use Rattle.lrc_named_tree.specs.View.{named_of}
use Rattle.lrc_named_names.specs.View.{declared_of}
use Rattle.lrc_named_constants.specs.Well.{bytes_of}
use Rattle.lrc_named_expression_faults.specs.Fault.{IsFirstOf}
use Rattle.lrc_named_faults.specs.Declarations.{IsInParameters}
use Rattle.lrc_named_faults.proofs.values.in_parameters.Given as goal

abbrev pub invariant-loop-i : goal.invariant-loop-i
invariant-loop-i l =
    IsFirstOf
    (λ f. IsInParameters (declared_of l.names) ((named_of l.function).bytes ∷ bytes_of (map named_of (take l.i l.parameters.names.now))) (map named_of (drop l.i l.parameters.names.now)) f)
    l.first
