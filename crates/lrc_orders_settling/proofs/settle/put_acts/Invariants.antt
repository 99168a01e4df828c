-- The acts so far stand behind the others.
use Rattle.std.proofs.Common.{◌≡◌, ◌++◌, take}
use Rattle.lrc_orders_settling.specs.Gone.{acts_by}
use Rattle.lrc_orders_settling.proofs.settle.put_acts.Given as goal

abbrev pub invariant-loop-deed : goal.invariant-loop-deed
invariant-loop-deed l = l.acts.items ≡ l.initial.acts.items ++ acts_by l.node (take l.deed-index l.deeds)
