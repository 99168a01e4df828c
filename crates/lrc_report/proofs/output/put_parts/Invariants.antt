use Rattle.std.proofs.Common.{◌≡◌, drop, false}
use Rattle.lrc_text.specs.Parts.{whole_text}
use Rattle.lrc_report.proofs.WriteLemmas.{IsUnderWay}
use Rattle.lrc_report.proofs.output.put_parts.Given as goal

abbrev pub invariant-loop-part : goal.invariant-loop-part
invariant-loop-part g l =
    IsUnderWay (g.W.Write.contents l.initial.output.writer.now) (g.W.Write.contents l.output.writer.now) (whole_text l.parts)
    (whole_text (drop l.part-index l.parts))
    × (l.output.failed ≡ false)
    × (l.output.writer.ghost_name ≡ l.initial.output.writer.ghost_name)
