use Rattle.std.proofs.Common.{◌∙◌, ap, subst}
use Rattle.lrc_shell.specs.Plays.{argument_line}
use Rattle.lrc_shell_sources.specs.Lines.{IsTold}
use Rattle.lrc_shell.proofs.refusal.refuse_arguments.Goals as goal

pub returns-clause-told : goal.returns-clause-told
returns-clause-told g c =
    subst (IsTold (g.E.Write.contents c.args.err.now) (g.E.Write.contents c.tell_line.new.err))
    (c.argument_line.ensures ∙ ap argument_line c.kind-kind.ensures) c.tell_line.ensures
