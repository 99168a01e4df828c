-- On a terminal the lines, and elsewhere nothing.
use Rattle.std.proofs.Common.{Bool, option_map, subst, sym}
use Rattle.lrc_shell.specs.More.{IsMoreOf}
use Rattle.lrc_shell_more.specs.More.{IsMoreTold}
use Rattle.lrc_shell_more.proofs.MoreLemmas.{same}
use Rattle.lrc_shell.proofs.more.tell_more.Goals as goal

pub returns-then-terminal : goal.returns-then-terminal
returns-then-terminal g c =
    subst (λ (terminal : Bool). IsMoreTold terminal (IsMoreOf c.args.choice.now c.args.text.now (option_map (λ e. e.now) c.args.events) c.args.fault)
    (g.E.Write.contents c.args.err.now) (g.E.Write.contents c.tell_more_of.new.err)) (sym c.if-terminal.true) c.tell_more_of.ensures

pub returns-else-terminal : goal.returns-else-terminal
returns-else-terminal g c =
    subst (λ (terminal : Bool). IsMoreTold terminal (IsMoreOf c.args.choice.now c.args.text.now (option_map (λ e. e.now) c.args.events) c.args.fault)
    (g.E.Write.contents c.args.err.now) (g.E.Write.contents c.args.err.now)) (sym c.if-terminal.false) (same (g.E.Write.contents c.args.err.now))
