-- How tokens of named programs are spelled in a text.
use Rattle.std.specs.Prelude.{ℕ, List, [], drop}
use Rattle.lrc_lint_fault.specs.Spelled.{digits_of}
use Rattle.lrc_named_tokens.specs.Lexemes.{keyword_text, sign_text}
use Rattle.lrc_named_tokens.specs.Token.{number, name, keyword, sign, finish, Lexeme, token, bad_byte, bad_number}

-- how a token that stands behind so many bytes of a text is spelled
abbrev pub spelled : List ℕ → ℕ → Lexeme → List ℕ
spelled text offset (token (number n)) = digits_of (drop offset text)
spelled text offset (token (name bytes)) = bytes
spelled text offset (token (keyword which)) = keyword_text which
spelled text offset (token (sign mark)) = sign_text mark
spelled text offset (token finish) = []
spelled text offset bad_byte = []
spelled text offset bad_number = []
