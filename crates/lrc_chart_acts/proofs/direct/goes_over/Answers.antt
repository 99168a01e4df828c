use Rattle.std.proofs.Common.{arith}
use Rattle.lrc_chart_acts.proofs.Tables.{none_all, none_before, none_more, some_here}
use Rattle.lrc_chart_acts.proofs.direct.goes_over.Goals as goal

pub loop-k-init : goal.loop-k-init
loop-k-init c = none_before c.args.order.now c.args.earlier c.args.later c.args.earlier (omega arith)

pub loop-k-preserved : goal.loop-k-preserved
loop-k-preserved c =
    none_more c.args.order.now c.args.earlier c.args.later c.loop-k.k c.loop-k.invariant c.if-is_between.ensures

pub returns-then-is_between : goal.returns-then-is_between
returns-then-is_between c = some_here c.args.order.now c.args.earlier c.args.later c.args.later c.loop-k.k c.loop-k-test.true c.if-is_between.ensures

pub returns : goal.returns
returns c =
    none_all c.args.order.now c.args.earlier c.args.later c.loop-k.k c.loop-k.invariant c.loop-k-test.false c.loop-k.auto.k-end
