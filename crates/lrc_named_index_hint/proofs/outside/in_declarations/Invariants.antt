-- Those that are left have all that is out of range, and nothing stands behind them.
use Rattle.std.proofs.Common.{◌≡◌, [], length, map}
use Rattle.lrc_named_tree.specs.View.{declaration_of}
use Rattle.lrc_named_index_hint.proofs.Behind.{AreLeft}
use Rattle.lrc_named_index_hint.proofs.outside.in_declarations.Given as goal

abbrev pub invariant-loop-declaration : goal.invariant-loop-declaration
invariant-loop-declaration l =
    AreLeft (map declaration_of l.fn.front.declarations.items) (map declaration_of l.front.declarations.items) l.at × (l.front.statements.items ≡ [])

abbrev pub decreases-loop-declaration : goal.decreases-loop-declaration
decreases-loop-declaration l = length l.front.declarations.items
