-- Tokens behind which a text goes on.
use Rattle.lrc_lang.specs.Token.{number, name, keyword, sign, finish, Lexeme, token, bad_byte, bad_number}

-- a token behind which the text goes on: any but its end
abbrev pub GoesOn : Lexeme → Type 0
GoesOn (token (number value)) = Unit {0}
GoesOn (token (name word)) = Unit {0}
GoesOn (token (keyword which)) = Unit {0}
GoesOn (token (sign mark)) = Unit {0}
GoesOn (token finish) = ⊥
GoesOn bad_byte = ⊥
GoesOn bad_number = ⊥
