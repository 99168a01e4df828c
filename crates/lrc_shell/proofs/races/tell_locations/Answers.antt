use Rattle.std.proofs.Common.{subst}
use Rattle.lrc_races_text.specs.declared.asked.Layout.{Layout}
use Rattle.lrc_races_text.specs.declared.asked.Sought.{Sought}
use Rattle.lrc_races_text.specs.declared.form.Form.{Form}
use Rattle.lrc_races_stream.specs.Locations.{IsLocationsPlayed}
use Rattle.lrc_shell.specs.Plays.{form_of, sought_of}
use Rattle.lrc_shell.proofs.races.tell_locations.Goals as goal

pub returns : goal.returns
returns g c =
    let known = g.F.Sources.known c.args.sources.now in
    let path = c.args.racing.now.file.now in
    let out = g.W.Write.contents c.args.out.now in
    let out' = g.W.Write.contents c.play_locations.new.out in
    let err = g.E.Write.contents c.args.err.now in
    let err' = g.E.Write.contents c.play_locations.new.err in
    let status = c.play_locations.result in
    subst (λ (layout : Layout). IsLocationsPlayed known path (form_of c.args.racing.now.form) c.args.racing.now.strict (sought_of c.args.racing.now.sure) layout out out' err err' status)
    c.layout_of.ensures
    (subst (λ (sought : Sought). IsLocationsPlayed known path (form_of c.args.racing.now.form) c.args.racing.now.strict sought c.layout_of.result out out' err err' status)
    c.sought_of.ensures
    (subst (λ (form : Form). IsLocationsPlayed known path form c.args.racing.now.strict c.sought_of.result c.layout_of.result out out' err err' status) c.form_of.ensures
    c.play_locations.ensures))
