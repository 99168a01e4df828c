-- What stands next, once the state has taken it.
use Rattle.std.proofs.Common.{Result, Ok, Err, inr}
use Rattle.lrc_lang.specs.declared.fault.FaultKind.{FaultKind}
use Rattle.lrc_lang.specs.declared.limits.Limits as code_limits
use Rattle.lrc_lang.specs.declared.state.ParserState as code_state
use Rattle.lrc_lang.specs.Token.{Token, token}
use Rattle.lrc_lang.specs.Symbol.{symbol_of}
use Rattle.lrc_lang.specs.Parser.SeenLimits.{names_seen, TakesToken}
use Rattle.lrc_lang.specs.Parser.SeenState.{state_seen, TakesSymbol}
use Rattle.lrc_lang.specs.Parser.SeenParser.{TakesLexeme}

pub TakesLexeme-from_token : (r : Result (Unit {0}) FaultKind) (s s' : code_state.ParserState) (l l' : code_limits.Limits) (t : Token) →
    TakesSymbol (Ok tt) (state_seen s) (symbol_of (names_seen l) t) (state_seen s') → TakesToken r l t l' →
    TakesLexeme r s l (token t) s' l'
TakesLexeme-from_token (Ok x) s s' l l' t taken counted = (taken, counted)
TakesLexeme-from_token (Err kind) s s' l l' t taken counted = inr (state_seen s', taken.0, counted)
