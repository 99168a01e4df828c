use Rattle.std.proofs.Common.{◌≡◌, ◌++◌, ◌-◌, Some, false, length}
use Rattle.lrc_text.specs.RaceText.{first_race_text}
use Rattle.lrc_report.proofs.WriteLemmas.{IsUnderWay}
use Rattle.lrc_judge_text.specs.RacingPairs.{lines_from}
use Rattle.lrc_judge_text.proofs.pairs.put_races.Given as goal

abbrev pub invariant-loop-later : goal.invariant-loop-later
invariant-loop-later g l = record {
  way : IsUnderWay (g.W.Write.contents l.initial.output.writer.now) (g.W.Write.contents l.output.writer.now)
      (lines_from l.judgement.conflicts.order l.judgement.acts.items 0 (length l.judgement.acts.items) ++ first_race_text (Some l.first))
      (lines_from l.judgement.conflicts.order l.judgement.acts.items l.later (length l.judgement.acts.items - l.later) ++ first_race_text (Some l.first));
  fine : l.output.failed ≡ false;
  same_writer : l.output.writer.ghost_name ≡ l.initial.output.writer.ghost_name;
}
