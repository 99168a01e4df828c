-- The code's lines as the definitions see them.
use Rattle.lrc_named_warnings.specs.declared.lines.Line as code
use Rattle.lrc_named_warnings.specs.Lines.{Line}

abbrev pub line_seen : code.Line → Line
line_seen l = record { line = l.line; column = l.column; words = l.words.items }
