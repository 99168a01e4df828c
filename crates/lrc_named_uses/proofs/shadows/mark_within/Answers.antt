-- Each token to the last one is passed.
use Rattle.std.proofs.Common.{arith, map}
use Rattle.lrc_named_tree.specs.View.{named_of}
use Rattle.lrc_named_constants.specs.Well.{bytes_of}
use Rattle.lrc_named_uses.proofs.Shadowing.{part_whole}
use Rattle.lrc_named_uses.proofs.shadows.mark_within.Goals as goal

pub returns : goal.returns
returns c =
    part_whole c.args.tokens.now (bytes_of (map named_of c.args.names.now.names.now)) c.args.first c.args.last c.loop-i.i c.args.shadows.now.items c.loop-i.shadows.items c.loop-i.invariant
    (λ k high inside. omega (arith, high, inside, c.loop-i-test.false, c.min-end.ensures))
