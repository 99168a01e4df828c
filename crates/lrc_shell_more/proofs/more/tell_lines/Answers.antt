-- Where there was no memory for them.
use Rattle.std.proofs.Common.{Result, Vec, ℕ, OnErr, subst, sym}
use Rattle.std.specs.declared.alloc.AllocError.{AllocError}
use Rattle.std.specs.declared.alloc.Global.{Global}
use Rattle.lrc_shell_sources.specs.Lines.{IsTold, memory_line}
use Rattle.lrc_shell_more.proofs.more.tell_lines.Goals as goal

pub returns-in-Err-clause-err : goal.returns-in-Err-clause-err
returns-in-Err-clause-err g c =
    subst (λ (lines : Result (Vec ℕ Global) AllocError). OnErr lines (IsTold (g.E.Write.contents c.args.err.now)
    (g.E.Write.contents c.tell_line-in-Err.new.err) memory_line)) (sym c.in-Err.is) c.tell_line-in-Err.ensures
