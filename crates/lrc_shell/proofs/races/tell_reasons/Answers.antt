use Rattle.std.proofs.Common.{subst}
use Rattle.lrc_races_text.specs.declared.form.Form.{Form}
use Rattle.lrc_races_stream.specs.Why.{IsWhyPlayed}
use Rattle.lrc_shell.proofs.races.tell_reasons.Goals as goal

pub returns : goal.returns
returns g c =
    subst (λ (form : Form). IsWhyPlayed (g.F.Sources.known c.args.sources.now) c.args.reasoning.now.file.now form
    c.args.reasoning.now.strict c.args.reasoning.now.lines.first c.args.reasoning.now.lines.second
    (g.W.Write.contents c.args.out.now) (g.W.Write.contents c.play_why.new.out) (g.E.Write.contents c.args.err.now) (g.E.Write.contents c.play_why.new.err)
    c.play_why.result) c.form_of.ensures c.play_why.ensures
