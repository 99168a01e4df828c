use Rattle.std.proofs.Common.{sym, append-nil}
use Rattle.lrc_lint_warned.specs.Found.{statement_seen}
use Rattle.lrc_lint_warned.specs.Held.{acquire_by}
use Rattle.lrc_lint_warned.proofs.Known.{each_all, each_grown}
use Rattle.lrc_lint_warned.proofs.held.put_acquires.Goals as goal

pub loop-i-init : goal.loop-i-init
loop-i-init c = sym (append-nil c.args.out.now.items)

pub loop-i-preserved : goal.loop-i-preserved
loop-i-preserved c =
    each_grown (acquire_by c.args.lock c.args.under.now) statement_seen c.args.statements.now c.loop-i.i c.index-statements-i.result c.args.out.now.items _ _
    c.loop-i-test.true c.index-statements-i.is c.loop-i.invariant c.in_ok-put_acquire.ensures

pub returns : goal.returns
returns c =
    each_all (acquire_by c.args.lock c.args.under.now) statement_seen c.args.statements.now c.loop-i.i c.args.out.now.items _
    c.loop-i-test.false c.loop-i.invariant
