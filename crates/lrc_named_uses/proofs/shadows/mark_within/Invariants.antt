-- The tokens before the present one are marked.
use Rattle.std.proofs.Common.{map}
use Rattle.lrc_named_tree.specs.View.{named_of}
use Rattle.lrc_named_constants.specs.Well.{bytes_of}
use Rattle.lrc_named_uses.proofs.Shadowing.{IsPartMarked}
use Rattle.lrc_named_uses.proofs.shadows.mark_within.Given as goal

abbrev pub invariant-loop-i : goal.invariant-loop-i
invariant-loop-i l = IsPartMarked l.tokens (bytes_of (map named_of l.names.names.now)) l.first l.last l.i l.initial.shadows.items l.shadows.items
