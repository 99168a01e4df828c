-- What the lines so far say.
use Rattle.std.proofs.Common.{◌≡◌, length, take}
use Rattle.lrc_text.specs.Lines.{lines_of}
use Rattle.lrc_races_score.specs.Report.{SayClaims}
use Rattle.lrc_races_score.proofs.report.report_of.Given as goal

abbrev pub invariant-loop-line : goal.invariant-loop-line
invariant-loop-line l = record {
  counted : l.number ≡ length l.yielded;
  said : SayClaims 1 (take l.number (lines_of l.text)) l.report.claims.items;
}
