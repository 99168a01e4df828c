-- The lines, or that there was no memory for them.
use Rattle.std.proofs.Common.{List, Vec, ℕ, inl, inr, subst}
use Rattle.std.specs.declared.alloc.Global.{Global}
use Rattle.lrc_text.specs.Parts.{whole_text}
use Rattle.lrc_shell_sources.specs.Lines.{IsTold}
use Rattle.lrc_shell.proofs.more.tell_more_of.Goals as goal

pub returns-in-Ok : goal.returns-in-Ok
returns-in-Ok g c =
    inr (
      whole_text c.in-Ok.lines.items,
      c.in-Ok.ensures,
      subst (λ (parts : List (Vec ℕ Global)). IsTold (g.E.Write.contents c.args.err.now) (g.E.Write.contents c.tell_parts.new.err) (whole_text parts))
          c.deref.ensures.value c.tell_parts.ensures,
    )

pub returns-in-Err : goal.returns-in-Err
returns-in-Err g c = inl c.tell_line.ensures
