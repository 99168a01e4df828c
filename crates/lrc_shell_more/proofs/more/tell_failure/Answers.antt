-- On a terminal the lines, and elsewhere nothing.
use Rattle.lrc_shell_more.specs.More.{failure_lines}
use Rattle.lrc_shell_more.proofs.MoreLemmas.{told_elsewhere, told_there}
use Rattle.lrc_shell_more.proofs.more.tell_failure.Goals as goal

pub returns-then-terminal : goal.returns-then-terminal
returns-then-terminal g c =
    told_there c.args.terminal c.failure_lines.result (failure_lines c.args.failure) _ _ c.if-terminal.true c.failure_lines.ensures c.tell_lines.ensures.ok c.tell_lines.ensures.err

pub returns-else-terminal : goal.returns-else-terminal
returns-else-terminal g c = told_elsewhere c.args.terminal (failure_lines c.args.failure) _ c.if-terminal.false
