use Rattle.std.proofs.Common.{subst}
use Rattle.lrc_races_text.specs.declared.asked.Sought.{Sought}
use Rattle.lrc_races_text.specs.declared.form.Form.{Form}
use Rattle.lrc_races_stream.specs.Score.{IsScorePlayed}
use Rattle.lrc_shell.specs.Plays.{form_of}
use Rattle.lrc_shell.proofs.scoring.tell_score.Goals as goal

pub returns : goal.returns
returns g c =
    let known = g.F.Sources.known c.args.sources.now in
    let path = c.args.scoring.now.file.now in
    let report = c.args.scoring.now.report.now in
    let strict = c.args.scoring.now.strict in
    let out = g.W.Write.contents c.args.out.now in
    let out' = g.W.Write.contents c.play_score.new.out in
    let err = g.E.Write.contents c.args.err.now in
    let err' = g.E.Write.contents c.play_score.new.err in
    let status = c.play_score.result in
    subst (λ (sought : Sought). IsScorePlayed known path report (form_of c.args.scoring.now.form) strict sought out out' err err' status) c.sought_of.ensures
    (subst (λ (form : Form). IsScorePlayed known path report form strict c.sought_of.result out out' err err' status) c.form_of.ensures c.play_score.ensures)
