use Rattle.std.proofs.Common.{rules}
use Rattle.lrc_program.proofs.Trees.{row_of_hidden}
use Rattle.lrc_lang.proofs.body.Body.done_if.Goals as goal

pub returns-clause-step : goal.returns-clause-step
returns-clause-step c = search (rules, row_of_hidden)
