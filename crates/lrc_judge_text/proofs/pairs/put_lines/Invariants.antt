use Rattle.std.proofs.Common.{◌≡◌, ◌++◌, drop, false}
use Rattle.lrc_report.proofs.WriteLemmas.{IsUnderWay}
use Rattle.lrc_judge_text.specs.Judgement.{pair_lines}
use Rattle.lrc_judge_text.proofs.pairs.put_lines.Given as goal

abbrev pub invariant-loop-pair : goal.invariant-loop-pair
invariant-loop-pair g l = record {
  way : IsUnderWay (g.W.Write.contents l.initial.output.writer.now) (g.W.Write.contents l.output.writer.now) (pair_lines l.acts l.pairs)
      (l.text.items ++ pair_lines l.acts (drop l.pair-index l.pairs));
  fine : l.output.failed ≡ false;
  same_writer : l.output.writer.ghost_name ≡ l.initial.output.writer.ghost_name;
}
