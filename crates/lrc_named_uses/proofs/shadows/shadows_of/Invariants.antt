-- What is marked so far, with what is marked from here on, is all.
use Rattle.lrc_named_uses.proofs.Shadowing.{AreShadowsFrom}
use Rattle.lrc_named_uses.proofs.shadows.shadows_of.Given as goal

abbrev pub invariant-loop-declaration : goal.invariant-loop-declaration
invariant-loop-declaration l = AreShadowsFrom l.tokens l.declarations l.declaration-index l.shadows.items
