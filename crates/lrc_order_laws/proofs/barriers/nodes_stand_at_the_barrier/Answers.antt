use Rattle.lrc_order_laws.proofs.AllStand.{AllStand, all_stand}
use Rattle.lrc_order_laws.proofs.barriers.nodes_stand_at_the_barrier.Goals as goal

pub returns-clause-manager : goal.returns-clause-manager
returns-clause-manager c = λ program nodes options events world first e at.
    let h : AllStand program nodes options world = all_stand program nodes options events world e in
    (h.manager, h.here first at, h.each)

pub returns-clause-others : goal.returns-clause-others
returns-clause-others c = λ program nodes options events world n l e at other.
    (all_stand program nodes options events world e).nowhere n l at other
