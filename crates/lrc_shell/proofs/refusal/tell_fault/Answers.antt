use Rattle.std.proofs.Common.{◌∙◌, ℕ, List, subst}
use Rattle.lrc_shell_sources.specs.Lines.{IsTold}
use Rattle.lrc_shell.proofs.refusal.tell_fault.Goals as goal

pub returns-in-Ok-clause-line : goal.returns-in-Ok-clause-line
returns-in-Ok-clause-line g c =
    subst (λ (line : List ℕ). IsTold (g.E.Write.contents c.args.err.now) (g.E.Write.contents c.tell_line.new.err) line)
    (c.as_bytes.ensures.value ∙ c.in-Ok.ensures) c.tell_line.ensures
