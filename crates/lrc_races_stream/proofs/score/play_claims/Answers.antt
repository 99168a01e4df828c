use Rattle.std.proofs.Common.{inl, inr}
use Rattle.std.specs.IoError.{error_kind}
use Rattle.lrc_races_stream.specs.Score.{played, unopened}
use Rattle.lrc_races_stream.proofs.Paths.{is_dash, is_other}
use Rattle.lrc_races_stream.proofs.TellerLemmas.{nothing_said}
use Rattle.lrc_races_stream.proofs.score.play_claims.Goals as goal

pub returns-then-eq : goal.returns-then-eq
returns-then-eq g c =
    played _ c.tell_scored.ensures.0 c.tell_scored.ensures.2.0 (inl (is_dash c.args.path.now c.eq.result c.eq.ensures c.if-eq.true, c.open_input-trace.ensures))
    c.tell_scored.ensures.1 c.tell_scored.ensures.2.1 c.tell_scored.ensures.2.2

pub returns-in-Ok : goal.returns-in-Ok
returns-in-Ok g c =
    played _ c.tell_scored-in-Ok.ensures.0 c.tell_scored-in-Ok.ensures.2.0 (inr (is_other c.args.path.now c.eq.result c.eq.ensures c.if-eq.false, c.in-Ok.ensures.ok))
    c.tell_scored-in-Ok.ensures.1 c.tell_scored-in-Ok.ensures.2.1 c.tell_scored-in-Ok.ensures.2.2

pub returns-in-Err : goal.returns-in-Err
returns-in-Err g c =
    unopened (error_kind c.in-Err.error) (is_other c.args.path.now c.eq.result c.eq.ensures c.if-eq.false) c.in-Err.ensures.err
    c.refuse_file.ensures.told (nothing_said (g.W.Write.contents c.args.out.now)) c.refuse_file.ensures.status
