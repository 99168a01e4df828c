-- What stands in a text, and where: its tokens, in order, up to the end of the text or up to the first fault. Blanks,
-- comments, numbers and words are those of the core.
use Rattle.std.specs.Prelude.{◌≡◌, ◌≤◌, ℕ, ◌+◌, List, [], ◌∷◌, ◌++◌, length, codes}
use Rattle.lrc_lang.specs.Lexemes.{IsBlank, IsLineFeed, IsHash, IsDigit, IsLetter, IsWithinLine, HasFront, IsSpan, value_of}
use Rattle.lrc_lang.specs.Lexemes.{IsDigits, IsNumber, IsNoNumber, IsWord}
use Rattle.lrc_named_tokens.specs.declared.token.Keyword.{Keyword}
use Rattle.lrc_named_tokens.specs.declared.token.Keyword.TheVariants as keywords
use Rattle.lrc_named_tokens.specs.declared.token.Sign.{Sign}
use Rattle.lrc_named_tokens.specs.declared.token.Sign.TheVariants as signs
use Rattle.lrc_named_tokens.specs.Token.{number, name, keyword, sign, finish, Lexeme, token, bad_byte, bad_number, Place, Located}

-- ---- words

-- how a keyword is spelled
abbrev pub keyword_text : Keyword → List ℕ
keyword_text keywords.Words = codes "words"
keyword_text keywords.Locks = codes "locks"
keyword_text keywords.Acquire = codes "acquire"
keyword_text keywords.Release = codes "release"
keyword_text keywords.Barrier = codes "barrier"
keyword_text keywords.Print = codes "print"
keyword_text keywords.If = codes "if"
keyword_text keywords.Else = codes "else"
keyword_text keywords.While = codes "while"
keyword_text keywords.Me = codes "me"
keyword_text keywords.Nodes = codes "nodes"
keyword_text keywords.Const = codes "const"
keyword_text keywords.Shared = codes "shared"
keyword_text keywords.Lock = codes "lock"
keyword_text keywords.Fn = codes "fn"
keyword_text keywords.For = codes "for"
keyword_text keywords.In = codes "in"
keyword_text keywords.With = codes "with"
keyword_text keywords.Assert = codes "assert"
keyword_text keywords.And = codes "and"
keyword_text keywords.Or = codes "or"
keyword_text keywords.Not = codes "not"

-- the word is spelled as a keyword
abbrev pub IsKeyword : List ℕ → Type 0
IsKeyword word = (which : Keyword) × (word ≡ keyword_text which)

-- ---- signs

-- how a sign is spelled
abbrev pub sign_text : Sign → List ℕ
sign_text signs.Semicolon = codes ";"
sign_text signs.Assign = codes "="
sign_text signs.OpenBracket = codes "["
sign_text signs.CloseBracket = codes "]"
sign_text signs.OpenBrace = codes "{"
sign_text signs.CloseBrace = codes "}"
sign_text signs.OpenParenthesis = codes "("
sign_text signs.CloseParenthesis = codes ")"
sign_text signs.Plus = codes "+"
sign_text signs.Minus = codes "-"
sign_text signs.Star = codes "*"
sign_text signs.Slash = codes "/"
sign_text signs.Percent = codes "%"
sign_text signs.Equal = codes "=="
sign_text signs.NotEqual = codes "!="
sign_text signs.Less = codes "<"
sign_text signs.LessOrEqual = codes "<="
sign_text signs.Greater = codes ">"
sign_text signs.GreaterOrEqual = codes ">="
sign_text signs.Comma = codes ","
sign_text signs.Range = codes ".."
sign_text signs.AddAssign = codes "+="
sign_text signs.SubtractAssign = codes "-="

-- the text begins with this sign and with no longer one, and rest is what stands behind it
pub record IsSign (text : List ℕ) (mark : Sign) (rest : List ℕ) : Type 0 where
  pub whole : text ≡ sign_text mark ++ rest
  pub longest : (other : Sign) → HasFront text (sign_text other) → length (sign_text other) ≤ length (sign_text mark)

-- the byte at the front of a text begins no token, is passed over by no rule, and begins no comment
pub record BeginsNothing (byte : ℕ) (rest : List ℕ) : Type 0 where
  pub no_blank : ¬ IsBlank byte
  pub no_line_feed : ¬ IsLineFeed byte
  pub no_comment : ¬ IsHash byte
  pub no_number : ¬ IsDigit byte
  pub no_word : ¬ IsLetter byte
  pub no_sign : (mark : Sign) → ¬ HasFront (byte ∷ rest) (sign_text mark)

-- ---- places

-- where a text begins
abbrev pub beginning : Place
beginning = record { line = 1; column = 1; offset = 0 }

-- the place this many bytes further on in the line
abbrev pub along : ℕ → Place → Place
along count p = record { line = p.line; column = p.column + count; offset = p.offset + count }

-- the place behind a line feed
abbrev pub next_line : Place → Place
next_line p = record { line = p.line + 1; column = 1; offset = p.offset + 1 }

-- this stands at this place
abbrev pub at : Place → Lexeme → Located
at place found = record { place = place; lexeme = found }

-- ---- texts

-- What stands in a text whose first byte is at this place. Each rule says what the text begins with, and goes on with
-- what stands in the rest of it.
pub data Lexes : Place → List ℕ → List Located → Type 0 where
  -- A tab, a carriage return or a space is passed over.
  passes_blank : {p : Place} {byte : ℕ} {rest : List ℕ} {all : List Located} → IsBlank byte → Lexes (along 1 p) rest all → Lexes p (byte ∷ rest) all
  -- A line feed is passed over, and the next line begins.
  passes_line_feed : {p : Place} {byte : ℕ} {rest : List ℕ} {all : List Located} → IsLineFeed byte → Lexes (next_line p) rest all → Lexes p (byte ∷ rest) all
  -- `#` begins a comment, which is passed over: it runs to the end of its line, or of the text.
  passes_comment : {p : Place} {byte : ℕ} {text words rest : List ℕ} {all : List Located} → IsHash byte → IsSpan IsWithinLine text words rest
      → Lexes (along (1 + length words) p) rest all → Lexes p (byte ∷ text) all
  -- A number stands for the value of its digits.
  takes_number : {p : Place} {text digits rest : List ℕ} {more : List Located} → IsDigits text digits rest → IsNumber digits rest
      → Lexes (along (length digits) p) rest more → Lexes p text (at p (token (number (value_of digits))) ∷ more)
  -- A word that is spelled as a keyword is that keyword.
  takes_keyword : {p : Place} {text rest : List ℕ} {which : Keyword} {more : List Located} → IsWord text (keyword_text which) rest
      → Lexes (along (length (keyword_text which)) p) rest more → Lexes p text (at p (token (keyword which)) ∷ more)
  -- Any other word is a name.
  takes_name : {p : Place} {text word rest : List ℕ} {more : List Located} → IsWord text word rest → ¬ IsKeyword word
      → Lexes (along (length word) p) rest more → Lexes p text (at p (token (name word)) ∷ more)
  -- The longest sign is taken.
  takes_sign : {p : Place} {text rest : List ℕ} {mark : Sign} {more : List Located} → IsSign text mark rest
      → Lexes (along (length (sign_text mark)) p) rest more → Lexes p text (at p (token (sign mark)) ∷ more)
  -- Digits that are no number are a fault, behind which nothing stands.
  stops_at_number : {p : Place} {text digits rest : List ℕ} → IsDigits text digits rest → IsNoNumber digits rest → Lexes p text (at p bad_number ∷ [])
  -- A byte that begins nothing is a fault, behind which nothing stands.
  stops_at_byte : {p : Place} {byte : ℕ} {rest : List ℕ} → BeginsNothing byte rest → Lexes p (byte ∷ rest) (at p bad_byte ∷ [])
  -- The end of the text is the last token.
  stops_at_end : {p : Place} → Lexes p [] (at p (token finish) ∷ [])

-- What stands in a text, and where.
abbrev pub HasLexemes : List ℕ → List Located → Type 0
HasLexemes text all = Lexes beginning text all
