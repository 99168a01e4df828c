-- The sizes that the loop has passed.
use Rattle.std.proofs.Common.{take}
use Rattle.lrc_named_names.specs.View.{declared_of}
use Rattle.lrc_named_faults.proofs.Sizes.{AreSizesSeen}
use Rattle.lrc_named_faults.proofs.items.sizes.Given as goal

abbrev pub invariant-loop-expression : goal.invariant-loop-expression
invariant-loop-expression l = AreSizesSeen (declared_of l.scope.names.now) (take l.expression-index l.expressions) l.first l.all.items
