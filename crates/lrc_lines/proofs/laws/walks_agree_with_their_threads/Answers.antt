use Rattle.lrc_lines.proofs.Agreeing.{agrees_behind}
use Rattle.lrc_lines.proofs.laws.walks_agree_with_their_threads.Goals as goal

pub returns : goal.returns
returns c = λ program nodes lines acts node. agrees_behind program nodes lines acts node
