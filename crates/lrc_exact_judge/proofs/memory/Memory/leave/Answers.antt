use Rattle.std.proofs.Common.{refl, arith}
use Rattle.lrc_exact_judge.proofs.Steps.{left-already, settled-now}
use Rattle.lrc_exact_judge.proofs.memory.Memory.leave.Goals as goal

pub returns-in_ok-settle-clause-memory : goal.returns-in_ok-settle-clause-memory
returns-in_ok-settle-clause-memory c =
    settled-now c.args.acts.now c.args.act c.args.now c.args.self.now c.settle.new.self _ c.requires.memory c.requires.node c.requires.at c.requires.departs
    c.requires.goes_on c.in_ok-settle.ensures.alike c.from.result c.from.ensures c.if-self-from.true c.in_ok-settle.ensures.kept
    refl refl refl (λ a l most having kept. kept)

pub returns-else-self-from-clause-memory : goal.returns-else-self-from-clause-memory
returns-else-self-from-clause-memory c =
    (left-already c.args.acts.now c.args.now c.args.self.now c.args.act.node c.from.result c.requires.memory c.requires.node
    (let at = c.requires.at in omega arith) c.from.ensures c.if-self-from.false).0
