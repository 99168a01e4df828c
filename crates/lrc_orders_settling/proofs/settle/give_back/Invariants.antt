-- The locks that the deeds so far give back are free.
use Rattle.std.proofs.Common.{◌≡◌, take}
use Rattle.lrc_orders_settling.specs.Gone.{freed}
use Rattle.lrc_orders_settling.proofs.settle.give_back.Given as goal

abbrev pub invariant-loop-deed : goal.invariant-loop-deed
invariant-loop-deed l = freed (take l.deed-index l.deeds) l.initial.holders.items ≡ l.holders.items
