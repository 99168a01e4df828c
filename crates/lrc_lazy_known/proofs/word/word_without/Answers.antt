use Rattle.std.proofs.Common.{arith}
use Rattle.lrc_lazy_known.specs.declared.known.Known.{Known}
use Rattle.lrc_lazy_known.specs.Made.{IsKnownWithout}
use Rattle.lrc_lazy_known.specs.Tidy.{IsTidyKnown, IsTidyWord}
use Rattle.lrc_lazy_known.proofs.Cutting.{without_cut}
use Rattle.lrc_lazy_known.proofs.Keeping.{cut_tidy}
use Rattle.lrc_lazy_known.proofs.Made.{each_push, all_without}
use Rattle.lrc_lazy_known.proofs.word.word_without.Goals as goal

pub loop-knower-preserved : goal.loop-knower-preserved
loop-knower-preserved c = record {
  made = each_push (IsKnownWithout c.args.word.now c.args.first c.args.dropped) c.loop-knower.left.items c.push.new.self.items c.loop-knower.knower _
      c.in_ok-push.ensures.items c.loop-knower.invariant.made c.in_ok-known_without.ensures.left;
  tidy = each_push (λ k (known : Known). IsTidyWord c.args.word.now → IsTidyKnown known) c.loop-knower.left.items c.push.new.self.items c.loop-knower.knower _
      c.in_ok-push.ensures.items c.loop-knower.invariant.tidy c.in_ok-known_without.ensures.tidy;
}

pub returns-clause-left : goal.returns-clause-left
returns-clause-left c =
    let word = c.args.word.now in
    let left = c.loop-knower.left.items in
    without_cut word left c.cut_word.new.word.items c.cut_word.ensures.same c.args.first c.args.dropped
    (all_without word left c.args.first c.args.dropped c.loop-knower.knower c.loop-knower.invariant.made
    (λ k le. c.count_without-count.ensures.past k (omega (arith, le, c.loop-knower-test.false, c.loop-knower.auto.knower-end))))

pub returns-clause-tidy : goal.returns-clause-tidy
returns-clause-tidy c =
    cut_tidy c.args.word.now c.loop-knower.left.items c.cut_word.new.word.items c.loop-knower.knower c.loop-knower.invariant.tidy c.cut_word.ensures
