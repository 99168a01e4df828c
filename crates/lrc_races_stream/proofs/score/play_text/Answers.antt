-- The text is a report, or why not.
use Rattle.std.proofs.Common.{List, subst}
use Rattle.lrc_races_score.specs.declared.report.LinedClaim.{LinedClaim}
use Rattle.lrc_races_stream.specs.Score.{IsTraceScored, refused, scored}
use Rattle.lrc_races_stream.proofs.TellerLemmas.{nothing_said}
use Rattle.lrc_races_stream.proofs.score.play_text.Goals as goal

pub returns-in-Ok : goal.returns-in-Ok
returns-in-Ok g c report read =
    scored c.args.text.now c.in-Ok.report read c.in-Ok.ensures.ok
    (subst (λ (claims : List LinedClaim). IsTraceScored (g.F.Sources.known c.args.sources.now) c.args.path.now c.args.form c.args.strict c.args.sought claims
    (g.W.Write.contents c.args.out.now) (g.W.Write.contents c.play_claims.new.out) (g.E.Write.contents c.args.err.now)
    (g.E.Write.contents c.play_claims.new.err) c.play_claims.result) c.as_slice.ensures.value c.play_claims.ensures)

pub returns-in-Err : goal.returns-in-Err
returns-in-Err g c report read =
    refused c.args.text.now c.in-Err.fault read c.in-Err.ensures.err c.refuse_report.ensures (nothing_said (g.W.Write.contents c.args.out.now))
