use Rattle.std.proofs.Common.{◌<◌, subst, sym, false}
use Rattle.lrc_acts.specs.JudgeLines.{unlazy_line}
use Rattle.lrc_acts.specs.declared.judge_lines.Place.{Place}
use Rattle.lrc_judge_text.specs.Judgement.{TellsLazyReading, unlazy}
use Rattle.lrc_judge.specs.Allowed.{AreAllowed}
use Rattle.lrc_judge_text.proofs.Within.{misread_within}
use Rattle.lrc_judge_text.proofs.tell.tell_unlazy.Goals as goal

pub unreachable-requires : goal.unreachable-requires
unreachable-requires c = c.in_default.ensures c.requires.first.misread.word c.requires.first.misread.value c.requires.first.misread.read

pub values_allowed-requires-clause-within : goal.values_allowed-requires-clause-within
values_allowed-requires-clause-within c = misread_within c.requires.first

pub place_at-requires : goal.place_at-requires
place_at-requires c = subst (λ n. c.args.position < n) c.requires.lines (misread_within c.requires.first)

pub returns : goal.returns
returns c = record {
  added = unlazy_line c.place_at.result c.in-Some.read.value c.deref.result.now;
  whole = c.in_ok-push_unlazy.ensures.ok;
  so = subst (λ (p : Place). TellsLazyReading c.args.acts.now c.args.lines.now false (unlazy_line p c.in-Some.read.value c.deref.result.now))
      (sym c.place_at.ensures) (unlazy c.requires.first c.in-Some.ensures
      (subst (AreAllowed c.args.acts.now c.args.position c.in-Some.read.word) (sym c.deref.ensures.value) c.in_ok-allowed.ensures));
}
