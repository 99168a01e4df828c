-- The report is read, or why not.
use Rattle.std.proofs.Common.{List, ℕ, subst, sym}
use Rattle.std.specs.IoError.{error_kind}
use Rattle.lrc_races_stream.specs.Score.{IsReportRead, unread}
use Rattle.lrc_races_stream.proofs.TellerLemmas.{nothing_said}
use Rattle.lrc_races_stream.proofs.score.play_score.Goals as goal

pub returns-in-Ok : goal.returns-in-Ok
returns-in-Ok g c =
    c.play_text.ensures c.args.report.now
    (subst (λ (text : List ℕ). IsReportRead (g.F.Sources.known c.args.sources.now) c.args.report.now text) (sym c.deref.ensures.value) c.in-Ok.ensures.ok)

pub returns-in-Err : goal.returns-in-Err
returns-in-Err g c =
    unread (error_kind c.in-Err.error) c.in-Err.ensures.err c.refuse_file.ensures.told (nothing_said (g.W.Write.contents c.args.out.now))
    c.refuse_file.ensures.status
