-- The code's tokens as the definitions see them.
use Rattle.lrc_lang.specs.declared.token.Token as code
use Rattle.lrc_lang.specs.declared.token.Token.TheVariants as tokens
use Rattle.lrc_lang.specs.declared.token.Lexeme as code_lexeme
use Rattle.lrc_lang.specs.declared.token.Lexeme.TheVariants as lexemes
use Rattle.lrc_lang.specs.declared.token.Placed as code_placed
use Rattle.lrc_lang.specs.Token.{Token, number, name, keyword, sign, finish, Lexeme, token, bad_byte, bad_number, Placed}

-- a token of the code without where it lies
abbrev pub token_of : code.Token → Token
token_of (tokens.Number value) = number value
token_of (tokens.Name bytes) = name bytes.now
token_of (tokens.Keyword word) = keyword word
token_of (tokens.Sign mark) = sign mark
token_of tokens.End = finish

-- what the code found next, without where it lies
abbrev pub lexeme_of : code_lexeme.Lexeme → Lexeme
lexeme_of (lexemes.Token found) = token (token_of found)
lexeme_of lexemes.BadByte = bad_byte
lexeme_of lexemes.BadNumber = bad_number

-- the same, with the line on which it begins
abbrev pub placed_of : code_placed.Placed → Placed
placed_of found = record { line = found.line; lexeme = lexeme_of found.lexeme }
