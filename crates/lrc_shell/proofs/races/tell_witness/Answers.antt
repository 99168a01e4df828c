use Rattle.std.proofs.Common.{subst}
use Rattle.lrc_races_text.specs.declared.form.Form.{Form}
use Rattle.lrc_races_stream.specs.Witness.{IsWitnessPlayed}
use Rattle.lrc_shell.proofs.races.tell_witness.Goals as goal

pub returns : goal.returns
returns g c =
    subst (λ (form : Form). IsWitnessPlayed (g.F.Sources.known c.args.sources.now) c.args.witnessing.now.file.now form
    c.args.witnessing.now.strict c.args.witnessing.now.lines.first c.args.witnessing.now.lines.second
    (g.W.Write.contents c.args.out.now) (g.W.Write.contents c.play_witness.new.out) (g.E.Write.contents c.args.err.now) (g.E.Write.contents c.play_witness.new.err)
    c.play_witness.result) c.form_of.ensures c.play_witness.ensures
