use Rattle.std.proofs.Common.{rules}
use Rattle.lrc_program.proofs.Trees.{row_of_hidden}
use Rattle.lrc_lang.proofs.body.Body.leave.Goals as goal

pub returns-in-Else : goal.returns-in-Else
returns-in-Else c = search (rules, row_of_hidden)

pub returns-in-Inside : goal.returns-in-Inside
returns-in-Inside c = search (rules, row_of_hidden)
