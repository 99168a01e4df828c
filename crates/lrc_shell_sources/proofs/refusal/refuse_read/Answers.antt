use Rattle.std.proofs.Common.{subst}
use Rattle.lrc_shell_sources.specs.Lines.{IsTold}
use Rattle.lrc_shell_sources.proofs.refusal.refuse_read.Goals as goal

pub returns-clause-told : goal.returns-clause-told
returns-clause-told g c =
    subst (IsTold (g.E.Write.contents c.args.err.now) (g.E.Write.contents c.tell_line.new.err)) c.read_line.ensures c.tell_line.ensures
