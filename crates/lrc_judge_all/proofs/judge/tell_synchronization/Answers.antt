use Rattle.std.proofs.Common.{subst, sym, false}
use Rattle.lrc_acts.specs.JudgeLines.{synchronized_line, unsynchronized_line}
use Rattle.lrc_acts.specs.declared.judge_lines.Place.{Place}
use Rattle.lrc_judge_text.specs.Judgement.{TellsSynchronization, synchronized, unsynchronized}
use Rattle.lrc_judge_all.proofs.judge.tell_synchronization.Goals as goal

pub returns-in_ok-push_unsynchronized-in-Some : goal.returns-in_ok-push_unsynchronized-in-Some
returns-in_ok-push_unsynchronized-in-Some c = record {
  added = unsynchronized_line c.place_at.result;
  whole = c.in_ok-push_unsynchronized-in-Some.ensures.ok;
  so = subst (λ (p : Place). TellsSynchronization c.args.nodes c.args.acts.now c.args.lines.now false (unsynchronized_line p)) (sym c.place_at.ensures)
      (unsynchronized c.in-Some.ensures);
}

pub returns-in_ok-extend_from_slice-in-None : goal.returns-in_ok-extend_from_slice-in-None
returns-in_ok-extend_from_slice-in-None c = record {
  added = synchronized_line;
  whole = c.in_ok-extend_from_slice-in-None.ensures.items;
  so = synchronized c.in-None.ensures;
}
