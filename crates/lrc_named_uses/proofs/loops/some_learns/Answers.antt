use Rattle.std.proofs.Common.{sym, ◌∙◌}
use Rattle.lrc_named_uses.specs.Deeds.{deed_seen}
use Rattle.lrc_named_uses.specs.Loops.{is_learning}
use Rattle.lrc_named_uses.proofs.Finding.{any_here, any_later, any_nowhere}
use Rattle.lrc_named_uses.proofs.loops.some_learns.Goals as goal

pub loop-deed-preserved : goal.loop-deed-preserved
loop-deed-preserved c =
    any_later deed_seen is_learning c.args.deeds.now c.loop-deed.deed-index _ _ c.loop-deed-test.true c.loop-deed.invariant
    (sym c.is_learning.ensures ∙ c.if-is_learning.false)

pub returns-then-is_learning : goal.returns-then-is_learning
returns-then-is_learning c =
    any_here deed_seen is_learning c.args.deeds.now c.loop-deed.deed-index _ _ c.loop-deed-test.true c.loop-deed.invariant
    (sym c.is_learning.ensures ∙ c.if-is_learning.true)

pub returns : goal.returns
returns c = any_nowhere deed_seen is_learning c.args.deeds.now c.loop-deed.deed-index _ c.loop-deed-test.false c.loop-deed.invariant
