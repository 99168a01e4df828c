use Rattle.lrc_named_tokens.specs.View.{token_of}
use Rattle.lrc_named_parse.proofs.Taking.{TakesLexeme-from_token}
use Rattle.lrc_named_parse.proofs.parser.take.Goals as goal

pub returns-in_ok-take-in-Token : goal.returns-in_ok-take-in-Token
returns-in_ok-take-in-Token c =
    rw c.in-Token.is
    (TakesLexeme-from_token _ c.args.state.now c.take.new.self c.args.limits.now c.take-in-Token.new.self c.args.at (token_of c.in-Token.token)
    c.in_ok-take-in-Token.ensures c.take-in-Token.ensures)
