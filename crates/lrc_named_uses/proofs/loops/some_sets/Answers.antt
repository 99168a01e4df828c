use Rattle.std.proofs.Common.{sym, ◌∙◌}
use Rattle.lrc_named_uses.specs.Deeds.{deed_seen}
use Rattle.lrc_named_uses.specs.Loops.{sets_name}
use Rattle.lrc_named_uses.proofs.Finding.{any_here, any_later, any_nowhere}
use Rattle.lrc_named_uses.proofs.loops.some_sets.Goals as goal

pub loop-deed-preserved : goal.loop-deed-preserved
loop-deed-preserved c =
    any_later deed_seen (sets_name c.args.name.now) c.args.deeds.now c.loop-deed.deed-index _ _ c.loop-deed-test.true c.loop-deed.invariant
    (sym c.sets_name.ensures ∙ c.if-sets_name.false)

pub returns-then-sets_name : goal.returns-then-sets_name
returns-then-sets_name c =
    any_here deed_seen (sets_name c.args.name.now) c.args.deeds.now c.loop-deed.deed-index _ _ c.loop-deed-test.true c.loop-deed.invariant
    (sym c.sets_name.ensures ∙ c.if-sets_name.true)

pub returns : goal.returns
returns c =
    any_nowhere deed_seen (sets_name c.args.name.now) c.args.deeds.now c.loop-deed.deed-index _ c.loop-deed-test.false c.loop-deed.invariant
