-- The uses from the present token on are found.
use Rattle.std.proofs.Common.{map}
use Rattle.lrc_named_tree.specs.View.{declaration_of}
use Rattle.lrc_named_uses.specs.Spots.{is_found}
use Rattle.lrc_named_uses.proofs.Spotting.{AreSpotsFrom}
use Rattle.lrc_named_uses.proofs.spots.spots_of.Given as goal

abbrev pub invariant-loop-i : goal.invariant-loop-i
invariant-loop-i l = AreSpotsFrom l.tokens (map declaration_of l.declarations) l.i (is_found l.spots)
