-- The name that indices, or arguments, belong to: it stands before their first bracket.
use Rattle.std.specs.Prelude.{ℕ, zero, suc, ◌+◌, ◌-◌, ◌==◌, ◌&&◌, Bool, true, false, not, Option, None, List, get_or, if◌then◌else◌, length, min}
use Rattle.lrc_named_tokens.specs.declared.token.Sign.TheVariants as signs
use Rattle.lrc_named_tokens.specs.Token.{finish, sign, Lexeme, token, Located}
use Rattle.lrc_named_name_hints.specs.Seen.{name_in}

-- a token opens, or closes, a part in brackets or parentheses
abbrev pub opens : Lexeme → Bool
opens (token (sign signs.OpenBracket)) = true
opens (token (sign signs.OpenParenthesis)) = true
opens other = false

abbrev pub closes : Lexeme → Bool
closes (token (sign signs.CloseBracket)) = true
closes (token (sign signs.CloseParenthesis)) = true
closes other = false

-- how many brackets are open before a token, where so many are open behind it
abbrev pub open_before : Lexeme → ℕ → ℕ
open_before lexeme depth = if opens lexeme then depth - 1 else (if closes lexeme then depth + 1 else depth)

-- it stands outside brackets
abbrev pub is_outside : Lexeme → ℕ → Bool
is_outside lexeme depth = (depth == 0) && not (opens lexeme) && not (closes lexeme)

-- past the last token, and the token of this number
abbrev pub no_token : Located
no_token = record { place = record { line = 0; column = 0; offset = 0 }; lexeme = token finish }

abbrev pub lexeme_at : List Located → ℕ → Lexeme
lexeme_at tokens number = (get_or tokens number no_token).lexeme

-- Of the first so many tokens, from the last one back: the first that stands outside brackets, of which so many are open behind them all, if
-- it is a name.
abbrev pub owner : List Located → (count depth : ℕ) → Option (List ℕ)
owner tokens zero depth = None
owner tokens (suc number) depth =
    if is_outside (lexeme_at tokens number) depth then name_in (lexeme_at tokens number)
    else owner tokens number (open_before (lexeme_at tokens number) depth)

-- the name before this token
abbrev pub owner_before : List Located → (at depth : ℕ) → Option (List ℕ)
owner_before tokens at depth = owner tokens (min at (length tokens)) depth
