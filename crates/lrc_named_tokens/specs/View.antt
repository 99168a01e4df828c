-- The code's tokens as the definitions see them.
use Rattle.lrc_named_tokens.specs.declared.token.Token as code
use Rattle.lrc_named_tokens.specs.declared.token.Token.TheVariants as tokens
use Rattle.lrc_named_tokens.specs.declared.token.Lexeme as code_lexeme
use Rattle.lrc_named_tokens.specs.declared.token.Lexeme.TheVariants as lexemes
use Rattle.lrc_named_tokens.specs.declared.token.Place as code_place
use Rattle.lrc_named_tokens.specs.declared.token.Located as code_located
use Rattle.lrc_named_tokens.specs.Token.{Token, number, name, keyword, sign, finish, Lexeme, token, bad_byte, bad_number, Place, Located}

-- a token of the code without where it lies
abbrev pub token_of : code.Token → Token
token_of (tokens.Number value) = number value
token_of (tokens.Name bytes) = name bytes.now
token_of (tokens.Keyword word) = keyword word
token_of (tokens.Sign mark) = sign mark
token_of tokens.End = finish

-- what the code found next, without where it lies
abbrev pub lexeme_of : code_lexeme.Lexeme → Lexeme
lexeme_of (lexemes.Token found) = token (token_of found)
lexeme_of lexemes.BadByte = bad_byte
lexeme_of lexemes.BadNumber = bad_number

-- a place of the code
abbrev pub place_of : code_place.Place → Place
place_of p = record { line = p.line; column = p.column; offset = p.offset }

-- the same, with where it stands in the text
abbrev pub located_of : code_located.Located → Located
located_of found = record { place = place_of found.place; lexeme = lexeme_of found.lexeme }
