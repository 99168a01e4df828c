-- How tokens are spelled in a text.
use Rattle.std.specs.Prelude.{ℕ, ◌&&◌, nat_le, Bool, List, [], ◌∷◌, if◌then◌else◌, drop}
use Rattle.lrc_lang.specs.Lexemes.{keyword_text, sign_text}
use Rattle.lrc_lang.specs.Token.{number, name, keyword, sign, finish, Lexeme, token, bad_byte, bad_number}

-- `0` to `9`
abbrev pub is_digit : ℕ → Bool
is_digit byte = nat_le 48 byte && nat_le byte 57

-- the digits at the front of a text
abbrev pub digits_of : List ℕ → List ℕ
digits_of [] = []
digits_of (byte ∷ rest) = if is_digit byte then byte ∷ digits_of rest else []

-- how a token that stands behind so many bytes of a text is spelled
abbrev pub spelled : List ℕ → ℕ → Lexeme → List ℕ
spelled text offset (token (number n)) = digits_of (drop offset text)
spelled text offset (token (name bytes)) = bytes
spelled text offset (token (keyword which)) = keyword_text which
spelled text offset (token (sign mark)) = sign_text mark
spelled text offset (token finish) = []
spelled text offset bad_byte = []
spelled text offset bad_number = []
