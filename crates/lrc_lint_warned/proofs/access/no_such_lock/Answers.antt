use Rattle.lrc_lint_warned.specs.Found.{StatementAt, statement_seen}
use Rattle.lrc_lint_warned.specs.Access.{no_such_lock_at}
use Rattle.lrc_lint_warned.proofs.Lists.{flat_all, flat_more, flat_none}
use Rattle.lrc_lint_warned.proofs.access.no_such_lock.Goals as goal

pub loop-s-init : goal.loop-s-init
loop-s-init c = flat_none (λ (s : StatementAt). no_such_lock_at c.args.locks s.at s.statement) statement_seen c.args.statements.now c.args.out.now.items

pub loop-s-preserved : goal.loop-s-preserved
loop-s-preserved c =
    flat_more (λ (s : StatementAt). no_such_lock_at c.args.locks s.at s.statement) statement_seen c.args.statements.now c.loop-s.s-index c.s-item.result _ _ _
    c.loop-s-test.true c.s-item.is c.loop-s.invariant
    (c.in_ok-no_such_lock_at.ensures)

pub returns : goal.returns
returns c =
    flat_all (λ (s : StatementAt). no_such_lock_at c.args.locks s.at s.statement) statement_seen c.args.statements.now c.loop-s.s-index _ _
    c.loop-s-test.false c.loop-s.invariant
