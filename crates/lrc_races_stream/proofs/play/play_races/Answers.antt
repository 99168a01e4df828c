use Rattle.std.proofs.Common.{inl, inr}
use Rattle.std.specs.IoError.{error_kind}
use Rattle.lrc_races_stream.specs.Plays.{told, unopened}
use Rattle.lrc_races_stream.proofs.Paths.{is_dash, is_other}
use Rattle.lrc_races_stream.proofs.TellerLemmas.{nothing_said}
use Rattle.lrc_races_stream.proofs.play.play_races.Goals as goal

pub returns-then-eq : goal.returns-then-eq
returns-then-eq g c =
    told _ c.play_trace.ensures.0 c.play_trace.ensures.2.0 (inl (is_dash c.args.path.now c.eq.result c.eq.ensures c.if-eq.true, c.open_input.ensures))
    c.play_trace.ensures.1 c.play_trace.ensures.2.1 c.play_trace.ensures.2.2

pub returns-in-Ok : goal.returns-in-Ok
returns-in-Ok g c =
    told _ c.play_trace-in-Ok.ensures.0 c.play_trace-in-Ok.ensures.2.0 (inr (is_other c.args.path.now c.eq.result c.eq.ensures c.if-eq.false, c.in-Ok.ensures.ok))
    c.play_trace-in-Ok.ensures.1 c.play_trace-in-Ok.ensures.2.1 c.play_trace-in-Ok.ensures.2.2

pub returns-in-Err : goal.returns-in-Err
returns-in-Err g c =
    unopened (error_kind c.in-Err.error) (is_other c.args.path.now c.eq.result c.eq.ensures c.if-eq.false) c.in-Err.ensures.err
    c.refuse_file.ensures.told (nothing_said (g.W.Write.contents c.args.out.now)) c.refuse_file.ensures.status
