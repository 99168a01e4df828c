use Rattle.std.proofs.Common.{◌≡◌, drop, reverse}
use Rattle.lrc_labels.specs.Sizes.{inner, rows}
use Rattle.lrc_labels.proofs.sizes.indices_of.Given as goal

-- the indices in rows of the sizes from i on, the last one first, and how many whole rows of these lie before the place
abbrev pub invariant-loop-i : goal.invariant-loop-i
invariant-loop-i l = (l.rows ≡ rows l.place (drop l.i l.sizes)) × (l.found.items ≡ reverse (inner l.place (drop l.i l.sizes)))
