use Rattle.lrc_lines.proofs.Placing.{stand_behind}
use Rattle.lrc_lines.proofs.laws.what_is_still_to_do_stands_in_the_text.Goals as goal

pub returns : goal.returns
returns c = λ program nodes lines acts node. stand_behind program nodes lines acts node
