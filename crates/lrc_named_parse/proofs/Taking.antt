-- What stands next, once the state has taken it.
use Rattle.std.proofs.Common.{◌≡◌, ℕ, Some, Result, Ok, Err, inr}
use Rattle.lrc_lang.specs.declared.fault.FaultKind.{FaultKind}
use Rattle.lrc_named_tokens.specs.Token.{Token, token}
use Rattle.lrc_named_parse.specs.declared.limits.Limits as code_limits
use Rattle.lrc_named_parse.specs.declared.state.State as code_state
use Rattle.lrc_named_parse.specs.SeenState.{state_seen}
use Rattle.lrc_named_parse.specs.SeenParser.{TakesLimits, TakesLexeme}
use Rattle.lrc_named_parse.specs.State.{state_with}

pub TakesLexeme-from_token : (r : Result (Unit {0}) FaultKind) (s s' : code_state.State) (l l' : code_limits.Limits) (i : ℕ) (t : Token) →
    state_with (state_seen s) i t ≡ Some (state_seen s') → TakesLimits r l t l' → TakesLexeme r s l i (token t) s' l'
TakesLexeme-from_token (Ok x) s s' l l' i t taken counted = (taken, counted)
TakesLexeme-from_token (Err kind) s s' l l' i t taken counted = inr (state_seen s', taken, counted)
