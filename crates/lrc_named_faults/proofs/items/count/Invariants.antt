-- The elements of the sizes that the loop has passed.
use Rattle.std.proofs.Common.{◌≡◌, drop, min}
use Rattle.lrc_named_names.specs.Elements.{elements}
use Rattle.lrc_named_faults.proofs.items.count.Given as goal

abbrev pub invariant-loop-i : goal.invariant-loop-i
invariant-loop-i l = l.count ≡ min (elements (drop l.i l.sizes)) 65537
