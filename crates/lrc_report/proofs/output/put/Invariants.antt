use Rattle.std.proofs.Common.{◌≡◌, false}
use Rattle.lrc_report.proofs.WriteLemmas.{IsUnderWay}
use Rattle.lrc_report.proofs.output.put.Given as goal

abbrev pub invariant-loop-turn : goal.invariant-loop-turn
invariant-loop-turn g l = IsUnderWay (g.W.Write.contents l.initial.output.writer.now) (g.W.Write.contents l.output.writer.now) l.text l.rest
    × (l.output.failed ≡ false)
    × (l.output.writer.ghost_name ≡ l.initial.output.writer.ghost_name)
