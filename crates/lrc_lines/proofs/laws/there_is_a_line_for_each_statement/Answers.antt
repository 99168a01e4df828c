use Rattle.lrc_lines.proofs.Numbering.{lines_counted}
use Rattle.lrc_lines.proofs.laws.there_is_a_line_for_each_statement.Goals as goal

pub returns : goal.returns
returns c = λ text program lines has. lines_counted text program lines has
