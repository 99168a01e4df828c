use Rattle.std.proofs.Common.{◌∙◌}
use Rattle.lrc_named_statement.specs.Seen.{body_seen}
use Rattle.lrc_named_parse.proofs.Takes.{statements_end, statements_go_on}
use Rattle.lrc_named_parse.proofs.state.State.follows_statements.Goals as goal

pub returns-in-End : goal.returns-in-End
returns-in-End c = λ before at. rw c.in-End.is (c.is_whole.ensures ∙ statements_end before (body_seen c.args.self.now.body) at)

pub returns-in_default : goal.returns-in_default
returns-in_default c = λ before at. c.takes.ensures at ∙ statements_go_on before (body_seen c.args.self.now.body) at c.args.token c.in_default.not-End
