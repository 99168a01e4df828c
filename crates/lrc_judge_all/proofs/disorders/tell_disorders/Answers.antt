use Rattle.std.proofs.Common.{Option, MatchOption, subst}
use Rattle.lrc_acts.specs.JudgeLines.{ordered_line}
use Rattle.lrc_judge.specs.InOrder.{IsFirstOutOfOrder, ReadsLastWritten}
use Rattle.lrc_judge.specs.declared.in_order.OutOfOrder.{OutOfOrder}
use Rattle.lrc_judge_all.specs.JudgesAll.{ordered}
use Rattle.lrc_judge_all.proofs.disorders.tell_disorders.Goals as goal

pub tell_each-requires-clause-some : goal.tell_each-requires-clause-some
tell_each-requires-clause-some c =
    let first = subst (λ (o : Option OutOfOrder). MatchOption o (ReadsLastWritten c.args.acts.now) (IsFirstOutOfOrder c.args.acts.now)) c.in-Some.is
    c.in_ok-first.ensures in (
      c.in-Some.field-0.position,
      record {
        word = first.word;
        value = first.value;
        last_written = c.in-Some.field-0.last_written;
        read = first.read;
        written = first.written;
        apart = first.apart;
      },
    )

pub returns-in_ok-extend_from_slice-in-None : goal.returns-in_ok-extend_from_slice-in-None
returns-in_ok-extend_from_slice-in-None c = record {
  added = ordered_line;
  whole = c.in_ok-extend_from_slice-in-None.ensures.items;
  so = ordered (subst (λ (o : Option OutOfOrder). MatchOption o (ReadsLastWritten c.args.acts.now) (IsFirstOutOfOrder c.args.acts.now)) c.in-None.is
      c.in_ok-first.ensures);
}
