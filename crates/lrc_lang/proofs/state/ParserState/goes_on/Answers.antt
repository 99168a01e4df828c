use Rattle.std.proofs.Common.{◌∙◌}
use Rattle.lrc_lang.specs.Parser.SeenState.{state_seen}
use Rattle.lrc_lang.proofs.Takes.{statements_end, statements_go_on}
use Rattle.lrc_lang.proofs.state.ParserState.goes_on.Goals as goal

pub returns-in-End : goal.returns-in-End
returns-in-End c = rw c.in-End.is (c.is_whole.ensures ∙ statements_end (state_seen c.args.self.now))

pub returns-in_default : goal.returns-in_default
returns-in_default c = c.takes.ensures ∙ statements_go_on (state_seen c.args.self.now) c.args.symbol c.in_default.not-End
