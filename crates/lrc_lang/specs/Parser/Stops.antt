-- What the parser does not take, and the kinds of tokens that it takes in place of it.
use Rattle.std.specs.Prelude.{◌≡◌, ◌≢◌, Bool, true, List, filter, is_some, None, Option, Some, Ok, Err}
use Rattle.lrc_lang.specs.declared.fault.FaultKind.{FaultKind}
use Rattle.lrc_lang.specs.declared.fault.FaultKind.TheVariants.{BadByte, Unexpected, NoMemory}
use Rattle.lrc_lang.specs.declared.first_fault.Stop.{Stop}
use Rattle.lrc_lang.specs.declared.kind.Kind.{Kind}
use Rattle.lrc_lang.specs.declared.kind.Kind.TheVariants as kinds
use Rattle.lrc_lang.specs.declared.limits.Limits as code_limits
use Rattle.lrc_lang.specs.declared.state.ParserState as code_state
use Rattle.lrc_lang.specs.Token.{Lexeme, token, bad_byte, bad_number}
use Rattle.lrc_lang.specs.Symbol.{Symbol, Names, number, name, keyword, finish, symbol_of, symbol_of_sign}
use Rattle.lrc_lang.specs.Kind.{all_kinds}
use Rattle.lrc_lang.specs.Parser.SeenParser.{TakesLexeme}
use Rattle.lrc_lang.specs.Parser.SeenState.{state_seen}
use Rattle.lrc_lang.specs.Parser.State.{ParserState, state_with}

-- a symbol of this kind
abbrev pub symbol_of_kind : Kind → Symbol
symbol_of_kind kinds.Name = name 0
symbol_of_kind kinds.Number = number 1
symbol_of_kind (kinds.Keyword which) = keyword which
symbol_of_kind (kinds.Sign mark) = symbol_of_sign mark
symbol_of_kind kinds.End = finish

abbrev pub takes_kind : ParserState → Kind → Bool
takes_kind s kind = is_some (state_with s (symbol_of_kind kind))

-- the kinds of tokens that the parser takes in a state
abbrev pub kinds_taken : ParserState → List Kind
kinds_taken s = filter (takes_kind s) all_kinds

-- The parser takes this, behind these names, unless it passes a limit or is a bad number.
abbrev pub IsTaken : ParserState → Names → Lexeme → Type 0
IsTaken s names (token t) = is_some (state_with s (symbol_of names t)) ≡ true
IsTaken s names bad_byte = ⊥
IsTaken s names bad_number = Unit {0}

-- The parser does not take this, whatever its size.
abbrev pub IsRefused : FaultKind → ParserState → Names → Lexeme → Type 0
IsRefused Unexpected s names (token t) = state_with s (symbol_of names t) ≡ None
IsRefused BadByte s names bad_byte = Unit {0}
IsRefused _ s names _ = ⊥

-- of a token that is refused and of a byte that begins none
abbrev pub ListsKinds : FaultKind → ParserState → List Kind → Type 0
ListsKinds Unexpected s may_stand = may_stand ≡ kinds_taken s
ListsKinds BadByte s may_stand = may_stand ≡ kinds_taken s
ListsKinds _ s may_stand = Unit {0}

-- what stands next is taken, or it is not and this is why
abbrev pub Stops : Option Stop → code_state.ParserState → code_limits.Limits → Lexeme → code_state.ParserState → code_limits.Limits → Type 0
Stops None s l next s' l' = TakesLexeme (Ok tt) s l next s' l'
Stops (Some stop) s l next s' l' =
    TakesLexeme (Err stop.kind) s l next s' l' × (stop.kind ≢ NoMemory) × ListsKinds stop.kind (state_seen s) stop.may_stand.items
