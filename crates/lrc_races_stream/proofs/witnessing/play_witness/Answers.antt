use Rattle.std.specs.IoError.{error_kind}
use Rattle.std.proofs.Common.{subst}
use Rattle.lrc_shell_sources.specs.Known.{Held}
use Rattle.lrc_races_stream.specs.Noted.{Notes}
use Rattle.lrc_races_stream.specs.Witness.{Witnesses, played, unopened}
use Rattle.lrc_races_stream.proofs.TellerLemmas.{nothing_said}
use Rattle.lrc_races_stream.proofs.witnessing.play_witness.Goals as goal

pub returns-in-Ok : goal.returns-in-Ok
returns-in-Ok g c =
    played c.witness-outcome.result _ (subst (λ (held : Held). Witnesses c.args.strict c.args.form held c.args.first c.args.second c.witness-outcome.result)
    c.in-Ok.ensures.ok c.witness-outcome.ensures.answer)
    (subst (λ (held : Held). Notes c.args.form held c.args.second c.witness-outcome.result (g.E.Write.contents c.args.err.now)
    (g.E.Write.contents c.witness-outcome.new.err)) c.in-Ok.ensures.ok c.witness-outcome.ensures.notes) c.conclude.ensures

pub returns-in-Err : goal.returns-in-Err
returns-in-Err g c =
    unopened (error_kind c.in-Err.error) c.in-Err.ensures.err c.refuse_file.ensures.told (nothing_said (g.W.Write.contents c.args.out.now))
    c.refuse_file.ensures.status
