use Rattle.std.proofs.Common.{◌∙◌, ℕ, List, inl, inr, subst}
use Rattle.lrc_cli.specs.Performance.{IsWritten}
use Rattle.lrc_cli.proofs.performance.complain.Goals as goal

pub returns-in-Ok : goal.returns-in-Ok
returns-in-Ok g c =
    inl (subst (λ (line : List ℕ). IsWritten (g.E.Write.contents c.args.err.now) (g.E.Write.contents c.put_line.new.err) line 1 c.put_line.result)
    (c.as_bytes.ensures.value ∙ c.in-Ok.ensures) c.put_line.ensures)

pub returns-in-Err : goal.returns-in-Err
returns-in-Err g c = inr c.put_line-in-Err.ensures
