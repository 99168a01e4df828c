use Rattle.lrc_lang.proofs.Taking.{TakesLexeme-from_token}
use Rattle.lrc_lang.proofs.parser.take.Goals as goal

pub returns-in_ok-take-in-Token : goal.returns-in_ok-take-in-Token
returns-in_ok-take-in-Token c =
    let taken = rw c.symbol.ensures at c.in_ok-take-in-Token.ensures in
    rw c.in-Token.is (TakesLexeme-from_token _ c.args.state.now c.take.new.self c.args.limits.now c.take-in-Token.new.self _ taken c.take-in-Token.ensures)
