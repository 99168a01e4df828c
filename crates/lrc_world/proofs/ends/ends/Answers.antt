use Rattle.std.proofs.Common.{sym, ◌∙◌}
use Rattle.lrc_world.proofs.EndsLemmas.{ends-more, ends-none}
use Rattle.lrc_world.proofs.ends.ends.Goals as goal

pub loop-act-init : goal.loop-act-init
loop-act-init c = c.in_ok-ends.ensures.items_if_clones_equal (λ y e. e) ∙ sym (ends-none c.args.nodes)

pub loop-act-preserved : goal.loop-act-preserved
loop-act-preserved c = ends-more _ _ _ _ _ _ c.loop-act-test.true c.loop-act.invariant c.note_end.ensures
