-- On a terminal the lines, and elsewhere nothing.
use Rattle.lrc_more_words.specs.Lines.{file_lines}
use Rattle.lrc_shell_more.proofs.MoreLemmas.{told_elsewhere, told_there}
use Rattle.lrc_shell_more.proofs.more.tell_file.Goals as goal

pub returns-then-terminal : goal.returns-then-terminal
returns-then-terminal g c =
    told_there c.args.terminal c.file_lines.result (file_lines c.args.path.now c.args.error.now) _ _ c.if-terminal.true c.file_lines.ensures c.tell_lines.ensures.ok c.tell_lines.ensures.err

pub returns-else-terminal : goal.returns-else-terminal
returns-else-terminal g c = told_elsewhere c.args.terminal (file_lines c.args.path.now c.args.error.now) _ c.if-terminal.false
