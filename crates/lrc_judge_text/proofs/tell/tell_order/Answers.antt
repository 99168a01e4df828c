use Rattle.std.proofs.Common.{Option, MatchOption, subst}
use Rattle.lrc_judge.specs.InOrder.{IsFirstOutOfOrder, ReadsLastWritten}
use Rattle.lrc_judge.specs.declared.in_order.OutOfOrder.{OutOfOrder}
use Rattle.lrc_acts.specs.JudgeLines.{ordered_line}
use Rattle.lrc_judge_text.specs.Judgement.{ordered}
use Rattle.lrc_judge_text.proofs.tell.tell_order.Goals as goal

pub returns-in_ok-extend_from_slice-in-None : goal.returns-in_ok-extend_from_slice-in-None
returns-in_ok-extend_from_slice-in-None c = record {
  added = ordered_line;
  whole = c.in_ok-extend_from_slice-in-None.ensures.items;
  so = ordered (subst (λ (o : Option OutOfOrder). MatchOption o (ReadsLastWritten c.args.acts.now) (IsFirstOutOfOrder c.args.acts.now)) c.in-None.is
      c.in_ok-first.ensures);
}
