-- The line that is made is said.
use Rattle.std.proofs.Common.{ℕ, ◌≡◌, ◌∙◌, inl, subst}
use Rattle.std.specs.Prelude.{IfOk, Result, Vec}
use Rattle.std.specs.declared.alloc.AllocError.{AllocError}
use Rattle.std.specs.declared.alloc.Global.{Global}
use Rattle.lrc_shell_sources.specs.Lines.{IsTold}
use Rattle.lrc_races_stream.proofs.lines.tell_made.Goals as goal

pub returns-in-Ok-clause-told : goal.returns-in-Ok-clause-told
returns-in-Ok-clause-told g c line made =
    let text_is : c.in-Ok.text.items ≡ line
    = subst (λ (r : Result (Vec ℕ Global) AllocError). IfOk r (λ text. text.items ≡ line)) c.in-Ok.is made in
    inl (subst (IsTold (g.E.Write.contents c.args.err.now) (g.E.Write.contents c.tell_line.new.err)) (c.deref.ensures.value ∙ text_is)
    c.tell_line.ensures)
