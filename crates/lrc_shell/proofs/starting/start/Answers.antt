use Rattle.std.proofs.Common.{◌≡◌, Bool, Option, subst}
use Rattle.std.specs.declared.io.Error.{Error}
use Rattle.lrc_shell_more.specs.More.{IsMoreTold, failure_lines}
use Rattle.lrc_shell.proofs.starting.start.Goals as goal

pub returns : goal.returns
returns g c =
    let between = g.E.Write.contents c.begin-status.new.err in
    let err' = g.E.Write.contents c.tell_failure.new.err in
    record {
      between = between;
      begins = c.begin-status.ensures;
      more = subst (λ (terminal : Bool). IsMoreTold terminal (λ lines. lines ≡ failure_lines (g.W.Outlet.failure_of c.begin-status.new.out)) between err')
          c.is_some-terminal.ensures
          (subst (λ (failure : Option Error). IsMoreTold c.is_some-terminal.result (λ lines. lines ≡ failure_lines failure) between err') c.failure.ensures
          c.tell_failure.ensures);
    }
