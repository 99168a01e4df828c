use Rattle.std.proofs.Common.{ℕ, Option, MatchOption, subst}
use Rattle.lrc_trace.specs.Reading.{ReadsLazily}
use Rattle.lrc_judge.specs.Reading.{IsFirstMisread}
use Rattle.lrc_acts.specs.JudgeLines.{lazy_line}
use Rattle.lrc_judge_all.specs.JudgesAll.{lazy}
use Rattle.lrc_judge_all.proofs.misreads.tell_misreads.Goals as goal

pub returns-in_ok-extend_from_slice-in-None : goal.returns-in_ok-extend_from_slice-in-None
returns-in_ok-extend_from_slice-in-None c = record {
  added = lazy_line;
  whole = c.in_ok-extend_from_slice-in-None.ensures.items;
  so = lazy (subst (λ (o : Option ℕ). MatchOption o (ReadsLazily c.args.acts.now) (IsFirstMisread c.args.acts.now)) c.in-None.is c.in_ok-fault.ensures);
}

pub tell_from-requires-clause-first : goal.tell_from-requires-clause-first
tell_from-requires-clause-first c =
    subst (λ (o : Option ℕ). MatchOption o (ReadsLazily c.args.acts.now) (IsFirstMisread c.args.acts.now)) c.in-Some.is c.in_ok-fault.ensures
