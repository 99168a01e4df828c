-- On a terminal the lines, and elsewhere nothing.
use Rattle.std.proofs.Common.{map}
use Rattle.lrc_more_words.specs.Lines.{number_lines}
use Rattle.lrc_shell_more.proofs.MoreLemmas.{told_elsewhere, told_there}
use Rattle.lrc_shell_more.proofs.more.tell_number.Goals as goal

pub returns-then-terminal : goal.returns-then-terminal
returns-then-terminal g c =
    told_there c.args.terminal c.number_lines.result (number_lines (map g.S.AsStr.text c.args.words.now)) _ _ c.if-terminal.true c.number_lines.ensures c.tell_lines.ensures.ok c.tell_lines.ensures.err

pub returns-else-terminal : goal.returns-else-terminal
returns-else-terminal g c = told_elsewhere c.args.terminal (number_lines (map g.S.AsStr.text c.args.words.now)) _ c.if-terminal.false
