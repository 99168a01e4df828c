use Rattle.lrc_lines.proofs.Making.{line_of_act, makes_behind}
use Rattle.lrc_lines.proofs.laws.each_line_is_of_what_makes_the_act.Goals as goal

pub returns-clause-line : goal.returns-clause-line
returns-clause-line c = λ program nodes lines acts i node deed does within. line_of_act program nodes lines acts i node deed does within

pub returns-clause-made : goal.returns-clause-made
returns-clause-made c = λ program nodes lines acts i node deed follows does within.
    makes_behind program nodes lines acts i node deed follows does within
