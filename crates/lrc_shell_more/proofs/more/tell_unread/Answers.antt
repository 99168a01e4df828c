-- On a terminal the lines, and elsewhere nothing.
use Rattle.lrc_shell_more.specs.More.{unread_lines, unread_seen}
use Rattle.lrc_shell_more.proofs.MoreLemmas.{told_elsewhere, told_there}
use Rattle.lrc_shell_more.proofs.more.tell_unread.Goals as goal

pub returns-then-terminal : goal.returns-then-terminal
returns-then-terminal g c =
    told_there c.args.terminal c.unread_lines.result (unread_lines (unread_seen c.args.unread)) _ _ c.if-terminal.true c.unread_lines.ensures c.tell_lines.ensures.ok c.tell_lines.ensures.err

pub returns-else-terminal : goal.returns-else-terminal
returns-else-terminal g c = told_elsewhere c.args.terminal (unread_lines (unread_seen c.args.unread)) _ c.if-terminal.false
