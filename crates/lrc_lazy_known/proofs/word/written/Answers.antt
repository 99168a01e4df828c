use Rattle.std.proofs.Common.{arith}
use Rattle.lrc_lazy_known.specs.declared.known.Known.{Known}
use Rattle.lrc_lazy_known.specs.Made.{IsWrittenBy}
use Rattle.lrc_lazy_known.specs.Tidy.{IsTidyKnown, IsTidyWord}
use Rattle.lrc_lazy_known.proofs.Cutting.{written_cut}
use Rattle.lrc_lazy_known.proofs.Keeping.{cut_tidy}
use Rattle.lrc_lazy_known.proofs.Made.{each_push, all_written}
use Rattle.lrc_lazy_known.proofs.word.written.Goals as goal

pub loop-knower-preserved : goal.loop-knower-preserved
loop-knower-preserved c = record {
  made = each_push (IsWrittenBy c.args.word.now c.args.writer c.args.value) c.loop-knower.after.items c.push.new.self.items c.loop-knower.knower _
      c.in_ok-push.ensures.items c.loop-knower.invariant.made c.in_ok-written_by.ensures.written;
  tidy = each_push (λ k (known : Known). IsTidyWord c.args.word.now → IsTidyKnown known) c.loop-knower.after.items c.push.new.self.items c.loop-knower.knower _
      c.in_ok-push.ensures.items c.loop-knower.invariant.tidy c.in_ok-written_by.ensures.tidy;
}

pub returns-clause-written : goal.returns-clause-written
returns-clause-written c =
    written_cut c.args.word.now c.loop-knower.after.items c.cut_word.new.word.items c.cut_word.ensures.same c.args.writer c.args.value
    (all_written c.args.word.now c.loop-knower.after.items c.args.writer c.args.value c.loop-knower.knower c.loop-knower.invariant.made
    (omega (arith, c.past-count.ensures.count, c.loop-knower-test.false, c.loop-knower.auto.knower-end))
    (omega (arith, c.past-count.ensures.number, c.loop-knower-test.false, c.loop-knower.auto.knower-end)))

pub returns-clause-tidy : goal.returns-clause-tidy
returns-clause-tidy c =
    cut_tidy c.args.word.now c.loop-knower.after.items c.cut_word.new.word.items c.loop-knower.knower c.loop-knower.invariant.tidy c.cut_word.ensures
