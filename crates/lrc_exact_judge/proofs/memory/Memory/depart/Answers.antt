use Rattle.std.proofs.Common.{◌<◌, refl, sym, subst, arith}
use Rattle.lrc_exact_judge.specs.declared.layout.Layout.{Layout}
use Rattle.lrc_exact_judge.proofs.Steps.{step-depart}
use Rattle.lrc_exact_judge.proofs.memory.Memory.depart.Goals as goal

pub returns-clause-memory : goal.returns-clause-memory
returns-clause-memory c =
    let mid = c.leave.new.self in
    step-depart c.args.acts.now c.args.act c.args.now c.from.result mid _ c.in_ok-leave.ensures.memory
    (subst (λ (y : Layout). c.args.act.node < y.nodes) (sym c.in_ok-leave.ensures.layout) c.requires.node)
    c.requires.at c.requires.departs c.from.ensures (let long = mid.all_departs in let few = mid.layout.few in omega arith)
    c.in_ok-leave.ensures.left refl _ refl refl refl (λ a l most having kept. kept)
