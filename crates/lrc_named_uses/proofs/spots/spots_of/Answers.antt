-- The uses with one token more.
use Rattle.std.proofs.Common.{arith, map}
use Rattle.lrc_named_tree.specs.View.{declaration_of}
use Rattle.lrc_named_uses.proofs.Spotting.{spots_more, spots_same}
use Rattle.lrc_named_uses.proofs.spots.spots_of.Goals as goal

pub loop-i-preserved-in-Continue-branch-2 : goal.loop-i-preserved-in-Continue-branch-2
loop-i-preserved-in-Continue-branch-2 c =
    spots_more c.args.tokens.now (map declaration_of c.args.declarations.now) c.loop-i.i _ (omega (arith, c.loop-i-test.true)) (omega (arith, c.loop-i-test.true, c.loop-i.auto.i))
    c.in_ok-shadows.shadows.items c.index.result.now c.in_ok-shadows.ensures c.index.ensures c.loop-i.spots c.put.new.spots c.if-not-index.true c.in_ok-put.ensures
    c.loop-i.invariant

pub loop-i-preserved : goal.loop-i-preserved
loop-i-preserved c =
    spots_same c.args.tokens.now (map declaration_of c.args.declarations.now) c.loop-i.i (omega (arith, c.loop-i-test.true)) (omega (arith, c.loop-i-test.true, c.loop-i.auto.i))
    c.in_ok-shadows.shadows.items c.index.result.now c.in_ok-shadows.ensures c.index.ensures c.loop-i.spots c.if-not-index.false c.loop-i.invariant
