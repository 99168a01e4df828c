-- What the parser takes as the definitions see it.
use Rattle.std.specs.Prelude.{◌≡◌, ◌≤◌, ◌⊎◌, ℕ, List, length, Some, Result, Ok, Err}
use Rattle.lrc_lang.specs.declared.fault.FaultKind.{FaultKind}
use Rattle.lrc_lang.specs.declared.fault.FaultKind.TheVariants as kinds
use Rattle.lrc_lang.specs.Parser.Seen.{Fails}
use Rattle.lrc_named_tokens.specs.Lexemes.{HasLexemes}
use Rattle.lrc_named_tokens.specs.Token.{Token, Lexeme, token, bad_byte, bad_number, Located}
use Rattle.lrc_named_parse.specs.declared.limits.Limits as code_limits
use Rattle.lrc_named_parse.specs.declared.state.State as code_state
use Rattle.lrc_named_parse.specs.SeenLimits.{counted_seen, TakesToken}
use Rattle.lrc_named_parse.specs.SeenState.{state_seen}
use Rattle.lrc_named_parse.specs.State.{State, state_with}

-- what came out where the limits counted the next token
abbrev pub TakesLimits : Result (Unit {0}) FaultKind → code_limits.Limits → Token → code_limits.Limits → Type 0
TakesLimits r old t new = TakesToken r old.nested (counted_seen old.counted) t new.nested (counted_seen new.counted)

-- What came out where what stands next was taken. Where it is a token, the state takes it first, and then the limits.
abbrev pub TakesLexeme : Result (Unit {0}) FaultKind → code_state.State → code_limits.Limits → ℕ → Lexeme → code_state.State → code_limits.Limits → Type 0
TakesLexeme (Ok x) s l i (token t) s' l' = (state_with (state_seen s) i t ≡ Some (state_seen s')) × TakesLimits (Ok x) l t l'
TakesLexeme (Err kind) s l i (token t) s' l' =
    Fails kind (state_with (state_seen s) i t)
    ⊎ ((next : State) × (state_with (state_seen s) i t ≡ Some next) × TakesLimits (Err kind) l t l')
TakesLexeme (Err kind) s l i bad_byte s' l' = kind ≡ kinds.BadByte
TakesLexeme (Err kind) s l i bad_number s' l' = kind ≡ kinds.BadNumber
TakesLexeme _ s l i _ s' l' = ⊥

-- a text that is not too long has these lexemes
pub record AreOfText (lexemes : List Located) : Type 0 where
  pub text : List ℕ
  pub fits : length text ≤ 65536
  pub lexed : HasLexemes text lexemes
