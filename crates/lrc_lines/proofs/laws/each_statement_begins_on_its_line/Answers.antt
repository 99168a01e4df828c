use Rattle.lrc_lines.proofs.Begins.{begin_on_lines}
use Rattle.lrc_lines.proofs.laws.each_statement_begins_on_its_line.Goals as goal

pub returns : goal.returns
returns c = λ text program lines has. begin_on_lines text program lines has
