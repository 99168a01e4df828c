-- What the parser takes as the definitions see it.
use Rattle.std.specs.Prelude.{◌≡◌, ◌⊎◌, Some, Result, Ok, Err}
use Rattle.lrc_lang.specs.declared.fault.FaultKind.{FaultKind}
use Rattle.lrc_lang.specs.declared.fault.FaultKind.TheVariants as kinds
use Rattle.lrc_lang.specs.declared.fault.ParseFault as code_fault
use Rattle.lrc_lang.specs.declared.limits.Limits as code_limits
use Rattle.lrc_lang.specs.declared.state.ParserState as code_state
use Rattle.lrc_lang.specs.Token.{Lexeme, token, bad_byte, bad_number}
use Rattle.lrc_lang.specs.Symbol.{symbol_of}
use Rattle.lrc_lang.specs.Parser.SeenLimits.{names_seen, TakesToken}
use Rattle.lrc_lang.specs.Parser.SeenState.{state_seen, TakesSymbol}
use Rattle.lrc_lang.specs.Parser.State.{ParserState, state_with}

-- memory ran out, which is on no line
abbrev pub IsOutOfMemory : code_fault.ParseFault → Type 0
IsOutOfMemory e = (e.kind ≡ kinds.NoMemory) × (e.line ≡ 0)

-- What came out where what stands next was taken. Where it is a token, the state takes it first, and then the limits.
abbrev pub TakesLexeme : Result (Unit {0}) FaultKind → code_state.ParserState → code_limits.Limits → Lexeme
    → code_state.ParserState → code_limits.Limits → Type 0
TakesLexeme (Ok x) s l (token t) s' l' =
    TakesSymbol (Ok x) (state_seen s) (symbol_of (names_seen l) t) (state_seen s') × TakesToken (Ok x) l t l'
TakesLexeme (Err kind) s l (token t) s' l' =
    TakesSymbol (Err kind) (state_seen s) (symbol_of (names_seen l) t) (state_seen s')
    ⊎ ((next : ParserState) × (state_with (state_seen s) (symbol_of (names_seen l) t) ≡ Some next) × TakesToken (Err kind) l t l')
TakesLexeme (Err kind) s l bad_byte s' l' = kind ≡ kinds.BadByte
TakesLexeme (Err kind) s l bad_number s' l' = kind ≡ kinds.BadNumber
TakesLexeme _ s l _ s' l' = ⊥
