-- What one declaration more marks.
use Rattle.lrc_named_uses.proofs.Shadowing.{shadows_all, shadows_more}
use Rattle.lrc_named_uses.proofs.shadows.shadows_of.Goals as goal

pub loop-declaration-preserved : goal.loop-declaration-preserved
loop-declaration-preserved c =
    shadows_more c.args.tokens.now c.args.declarations.now c.loop-declaration.declaration-index c.declaration-item.result c.loop-declaration.shadows.items
    c.mark.new.shadows.items c.loop-declaration-test.true c.declaration-item.is c.loop-declaration.invariant c.in_ok-mark.ensures

pub returns : goal.returns
returns c =
    shadows_all c.args.tokens.now c.args.declarations.now c.loop-declaration.declaration-index c.loop-declaration.shadows.items c.loop-declaration-test.false
    c.loop-declaration.invariant
