use Rattle.std.proofs.Common.{◌<◌, subst, sym}
use Rattle.lrc_acts.specs.JudgeLines.{unordered_line}
use Rattle.lrc_acts.specs.declared.judge_lines.Place.{Place}
use Rattle.lrc_judge_text.specs.Judgement.{TellsOrder, unordered}
use Rattle.lrc_judge_text.proofs.Within.{disorder_within}
use Rattle.lrc_judge_text.proofs.tell.tell_disorder.Goals as goal

pub unreachable-requires : goal.unreachable-requires
unreachable-requires c = c.in_default.ensures c.requires.first.word c.requires.first.value c.requires.first.read

pub place_at-requires : goal.place_at-requires
place_at-requires c = subst (λ n. c.args.first.position < n) c.requires.lines (disorder_within c.requires.first)

pub returns : goal.returns
returns c = record {
  added = unordered_line c.place_at.result c.in-Some.read.value c.args.first.last_written;
  whole = c.in_ok-push_unordered.ensures.ok;
  so = subst (λ (p : Place). TellsOrder c.args.acts.now c.args.lines.now (unordered_line p c.in-Some.read.value c.args.first.last_written))
      (sym c.place_at.ensures) (unordered c.requires.first c.in-Some.ensures);
}
