-- What is said of each fault.
use Rattle.std.proofs.Common.{refl, subst, sym}
use Rattle.lrc_races_score.specs.declared.report.ReportFault.{ReportFault}
use Rattle.lrc_races_stream.specs.Score.{IsReportRefused, bad_claim_line}
use Rattle.lrc_races_stream.proofs.score.refuse_report.Goals as goal

pub returns-in-TooLong : goal.returns-in-TooLong
returns-in-TooLong g c =
    subst (λ (fault : ReportFault). IsReportRefused fault (g.E.Write.contents c.args.err.now) (g.E.Write.contents c.tell_line.new.err) 1)
    (sym c.in-TooLong.is) (c.tell_line.ensures, refl)

pub returns-in-BadClaim : goal.returns-in-BadClaim
returns-in-BadClaim g c =
    subst (λ (fault : ReportFault). IsReportRefused fault (g.E.Write.contents c.args.err.now) (g.E.Write.contents c.tell_made.new.err) c.tell_made.result)
    (sym c.in-BadClaim.is) (c.tell_made.ensures.told (bad_claim_line c.in-BadClaim.line) c.bad_claim_line.ensures, c.tell_made.ensures.status)

pub returns-in-NoMemory : goal.returns-in-NoMemory
returns-in-NoMemory g c =
    subst (λ (fault : ReportFault). IsReportRefused fault (g.E.Write.contents c.args.err.now) (g.E.Write.contents c.refuse_memory.new.err) c.refuse_memory.result)
    (sym c.in-NoMemory.is) (c.refuse_memory.ensures.told, c.refuse_memory.ensures.status)
