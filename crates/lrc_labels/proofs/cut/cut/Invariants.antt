use Rattle.std.proofs.Common.{◌≡◌, ◌++◌, map, length}
use Rattle.lrc_labels.specs.Cut.{cut, divides}
use Rattle.lrc_labels.proofs.cut.cut.Given as goal

-- the pieces so far, and those of what is left
abbrev pub invariant-loop-piece : goal.invariant-loop-piece
invariant-loop-piece l = map (λ piece. piece.now) l.pieces.items ++ cut (divides l.divider) l.rest ≡ cut (divides l.divider) l.fn.text

abbrev pub decreases-loop-piece : goal.decreases-loop-piece
decreases-loop-piece l = length l.rest
