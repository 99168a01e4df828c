use Rattle.lrc_lines.proofs.Numbering.{lines_by_numbers}
use Rattle.lrc_lines.proofs.laws.lines_are_those_of_the_statements.Goals as goal

pub returns : goal.returns
returns c = λ program nodes lines acts long. lines_by_numbers program nodes lines acts long
