-- What the parser does not take, and the kinds of tokens that it takes in place of it.
use Rattle.std.specs.Prelude.{◌≡◌, ◌≢◌, ℕ, Bool, true, List, filter, is_some, None, Option, Some, Ok, Err}
use Rattle.lrc_lang.specs.declared.fault.FaultKind.{FaultKind}
use Rattle.lrc_lang.specs.declared.fault.FaultKind.TheVariants.{BadByte, Unexpected, NoMemory}
use Rattle.lrc_named_tokens.specs.Token.{Lexeme, token, bad_byte, bad_number}
use Rattle.lrc_named_parse.specs.declared.limits.Limits as code_limits
use Rattle.lrc_named_parse.specs.declared.state.State as code_state
use Rattle.lrc_named_parse.specs.SeenParser.{TakesLexeme}
use Rattle.lrc_named_parse.specs.SeenState.{state_seen}
use Rattle.lrc_named_parse.specs.State.{State, state_with}
use Rattle.lrc_named_may.specs.declared.first_fault.Stop.{Stop}
use Rattle.lrc_named_may.specs.declared.kind.Kind.{Kind}
use Rattle.lrc_named_may.specs.Kind.{all_kinds, token_of_kind}

-- whether the parser takes a token of this kind, with so many tokens before it
abbrev pub takes_kind : ℕ → State → Kind → Bool
takes_kind at s kind = is_some (state_with s at (token_of_kind kind))

-- the kinds of tokens that the parser takes in a state
abbrev pub kinds_taken : ℕ → State → List Kind
kinds_taken at s = filter (takes_kind at s) all_kinds

-- The parser takes this, unless it passes a limit or is a bad number.
abbrev pub IsTaken : ℕ → State → Lexeme → Type 0
IsTaken at s (token t) = is_some (state_with s at t) ≡ true
IsTaken at s bad_byte = ⊥
IsTaken at s bad_number = Unit {0}

-- The parser does not take this, whatever the limits.
abbrev pub IsRefused : FaultKind → ℕ → State → Lexeme → Type 0
IsRefused Unexpected at s (token t) = state_with s at t ≡ None
IsRefused BadByte at s bad_byte = Unit {0}
IsRefused _ at s _ = ⊥

-- of a token that is refused and of a byte that begins none
abbrev pub ListsKinds : FaultKind → ℕ → State → List Kind → Type 0
ListsKinds Unexpected at s may_stand = may_stand ≡ kinds_taken at s
ListsKinds BadByte at s may_stand = may_stand ≡ kinds_taken at s
ListsKinds _ at s may_stand = Unit {0}

-- what stands next is taken, or it is not and this is why
abbrev pub Stops : Option Stop → code_state.State → code_limits.Limits → ℕ → Lexeme → code_state.State → code_limits.Limits → Type 0
Stops None s l at next s' l' = TakesLexeme (Ok tt) s l at next s' l'
Stops (Some stop) s l at next s' l' =
    TakesLexeme (Err stop.kind) s l at next s' l' × (stop.kind ≢ NoMemory) × ListsKinds stop.kind at (state_seen s) stop.may_stand.items
