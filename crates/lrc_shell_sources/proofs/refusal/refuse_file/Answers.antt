use Rattle.std.proofs.Common.{ap, subst}
use Rattle.lrc_shell_sources.specs.Lines.{IsTold, read_line}
use Rattle.lrc_shell_sources.proofs.refusal.refuse_file.Goals as goal

pub returns-clause-told : goal.returns-clause-told
returns-clause-told g c =
    subst (IsTold (g.E.Write.contents c.args.err.now) (g.E.Write.contents c.refuse_read.new.err)) (ap read_line c.kind.ensures) c.refuse_read.ensures.told
