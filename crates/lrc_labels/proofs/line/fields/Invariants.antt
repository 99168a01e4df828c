use Rattle.std.proofs.Common.{◌≡◌, map, take}
use Rattle.std.specs.Prelude.{filter}
use Rattle.lrc_labels.specs.Line.{has_bytes}
use Rattle.lrc_labels.proofs.line.fields.Given as goal

-- what the pieces so far have that is not empty
abbrev pub invariant-loop-piece : goal.invariant-loop-piece
invariant-loop-piece l = map (λ field. field.now) l.fields.items ≡ filter has_bytes (map (λ piece. piece.now) (take l.piece-index l.piece-items))
