use Rattle.std.proofs.Common.{arith}
use Rattle.lrc_lazy_known.specs.Tidy.{IsWrittenAs}
use Rattle.lrc_lazy_known.proofs.Keeping.{copied_as, same_tidy}
use Rattle.lrc_lazy_known.proofs.Made.{each_push, all_same}
use Rattle.lrc_lazy_known.proofs.word.same.Goals as goal

pub loop-knower-preserved : goal.loop-knower-preserved
loop-knower-preserved c =
    each_push (IsWrittenAs c.args.word.now) c.loop-knower.after.items c.push.new.self.items c.loop-knower.knower _
    c.in_ok-push.ensures.items c.loop-knower.invariant c.in_ok-copy_of.ensures.written

pub returns-clause-same : goal.returns-clause-same
returns-clause-same c =
    all_same c.args.word.now c.loop-knower.after.items c.loop-knower.knower
    (copied_as c.args.word.now c.loop-knower.after.items c.loop-knower.knower c.loop-knower.invariant)
    (omega (arith, c.loop-knower-test.false, c.loop-knower.auto.knower-end))

pub returns-clause-tidy : goal.returns-clause-tidy
returns-clause-tidy c =
    same_tidy c.args.word.now c.loop-knower.after.items c.loop-knower.knower c.loop-knower.invariant
    (omega (arith, c.loop-knower-test.false, c.loop-knower.auto.knower-end))
