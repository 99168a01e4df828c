-- What stands in a text: its tokens, in order, up to the end of the text or up to the first fault.
use Rattle.std.specs.Prelude.{◌≡◌, ◌<◌, ◌≤◌, ◌⊎◌, ℕ, ◌+◌, ◌-◌, ◌*◌, ◌^◌, List, [], ◌∷◌, ◌++◌, length, All, codes}
use Rattle.lrc_lang.specs.declared.token.Keyword.{Keyword}
use Rattle.lrc_lang.specs.declared.token.Keyword.TheVariants as keywords
use Rattle.lrc_lang.specs.declared.token.Sign.{Sign}
use Rattle.lrc_lang.specs.declared.token.Sign.TheVariants as signs
use Rattle.lrc_lang.specs.Token.{number, name, keyword, sign, finish, Lexeme, token, bad_byte, bad_number, Placed}

-- ---- bytes

-- a tab, a carriage return or a space
abbrev pub IsBlank : ℕ → Type 0
IsBlank byte = (byte ≡ 9) ⊎ (byte ≡ 13) ⊎ (byte ≡ 32)

-- what ends a line
abbrev pub IsLineFeed : ℕ → Type 0
IsLineFeed byte = byte ≡ 10

-- `#`, which begins a comment
abbrev pub IsHash : ℕ → Type 0
IsHash byte = byte ≡ 35

-- `0` to `9`
abbrev pub IsDigit : ℕ → Type 0
IsDigit byte = (48 ≤ byte) × (byte ≤ 57)

-- `A` to `Z`, `a` to `z` or `_`, which may begin a word
abbrev pub IsLetter : ℕ → Type 0
IsLetter byte = ((65 ≤ byte) × (byte ≤ 90)) ⊎ ((97 ≤ byte) × (byte ≤ 122)) ⊎ (byte ≡ 95)

-- what may stand in a word
abbrev pub IsLetterOrDigit : ℕ → Type 0
IsLetterOrDigit byte = IsLetter byte ⊎ IsDigit byte

-- what may stand in a comment: any byte that does not end the line
abbrev pub IsWithinLine : ℕ → Type 0
IsWithinLine byte = ¬ IsLineFeed byte

-- ---- fronts of a text

-- the text has a first byte, and it is of this kind
abbrev pub BeginsWith : (ℕ → Type 0) → List ℕ → Type 0
BeginsWith IsSuch [] = ⊥
BeginsWith IsSuch (byte ∷ rest) = IsSuch byte

-- the text begins with these bytes
abbrev pub HasFront : List ℕ → List ℕ → Type 0
HasFront text front = (rest : List ℕ) × (text ≡ front ++ rest)

-- front is the bytes of this kind at the beginning of the text, as many as stand there, and rest is what stands behind
-- them
pub record IsSpan (IsSuch : ℕ → Type 0) (text front rest : List ℕ) : Type 0 where
  pub whole : text ≡ front ++ rest
  pub each : All IsSuch front
  pub no_more : ¬ BeginsWith IsSuch rest

-- ---- numbers

-- the number that decimal digits write: each digit counts with the power of ten of its place
abbrev pub value_of : List ℕ → ℕ
value_of [] = 0
value_of (digit ∷ digits) = (digit - 48) * 10 ^ length digits + value_of digits

-- the text begins with these digits, as many as stand there, and rest is what stands behind them
pub record IsDigits (text digits rest : List ℕ) : Type 0 where
  pub begins : BeginsWith IsDigit text
  pub span : IsSpan IsDigit text digits rest

-- Digits are a number where their value is at most 2 ^ 64 - 1 and no letter or `_` follows them at once,
pub record IsNumber (digits rest : List ℕ) : Type 0 where
  pub in_range : value_of digits ≤ 18446744073709551615
  pub no_letter : ¬ BeginsWith IsLetter rest

-- and are none where their value is over that limit or a letter or `_` follows them at once.
abbrev pub IsNoNumber : List ℕ → List ℕ → Type 0
IsNoNumber digits rest = (18446744073709551615 < value_of digits) ⊎ BeginsWith IsLetter rest

-- ---- words

-- how a keyword is spelled
abbrev pub keyword_text : Keyword → List ℕ
keyword_text keywords.Words = codes "words"
keyword_text keywords.Locks = codes "locks"
keyword_text keywords.Acquire = codes "acquire"
keyword_text keywords.Release = codes "release"
keyword_text keywords.Barrier = codes "barrier"
keyword_text keywords.Print = codes "print"
keyword_text keywords.If = codes "if"
keyword_text keywords.Else = codes "else"
keyword_text keywords.While = codes "while"
keyword_text keywords.Me = codes "me"
keyword_text keywords.Nodes = codes "nodes"

-- the word is spelled as a keyword
abbrev pub IsKeyword : List ℕ → Type 0
IsKeyword word = (which : Keyword) × (word ≡ keyword_text which)

-- the text begins with this word: a letter or `_`, then letters, digits and `_`, as many as stand there; and rest is
-- what stands behind it
pub record IsWord (text word rest : List ℕ) : Type 0 where
  pub begins : BeginsWith IsLetter text
  pub span : IsSpan IsLetterOrDigit text word rest

-- ---- signs

-- how a sign is spelled
abbrev pub sign_text : Sign → List ℕ
sign_text signs.Semicolon = codes ";"
sign_text signs.Assign = codes "="
sign_text signs.OpenBracket = codes "["
sign_text signs.CloseBracket = codes "]"
sign_text signs.OpenBrace = codes "{"
sign_text signs.CloseBrace = codes "}"
sign_text signs.OpenParenthesis = codes "("
sign_text signs.CloseParenthesis = codes ")"
sign_text signs.Plus = codes "+"
sign_text signs.Minus = codes "-"
sign_text signs.Star = codes "*"
sign_text signs.Slash = codes "/"
sign_text signs.Percent = codes "%"
sign_text signs.Equal = codes "=="
sign_text signs.NotEqual = codes "!="
sign_text signs.Less = codes "<"
sign_text signs.LessOrEqual = codes "<="
sign_text signs.Greater = codes ">"
sign_text signs.GreaterOrEqual = codes ">="

-- the text begins with this sign and with no longer one, and rest is what stands behind it
pub record IsSign (text : List ℕ) (mark : Sign) (rest : List ℕ) : Type 0 where
  pub whole : text ≡ sign_text mark ++ rest
  pub longest : (other : Sign) → HasFront text (sign_text other) → length (sign_text other) ≤ length (sign_text mark)

-- the byte at the front of a text begins no token, is passed over by no rule, and begins no comment
pub record BeginsNothing (byte : ℕ) (rest : List ℕ) : Type 0 where
  pub no_blank : ¬ IsBlank byte
  pub no_line_feed : ¬ IsLineFeed byte
  pub no_comment : ¬ IsHash byte
  pub no_number : ¬ IsDigit byte
  pub no_word : ¬ IsLetter byte
  pub no_sign : (mark : Sign) → ¬ HasFront (byte ∷ rest) (sign_text mark)

-- ---- texts

-- this stands on this line
abbrev pub at : ℕ → Lexeme → Placed
at line found = record { line = line; lexeme = found }

-- What stands in a text whose first byte is on this line. Each rule says what the text begins with, and goes on with
-- what stands in the rest of it.
pub data Lexes : ℕ → List ℕ → List Placed → Type 0 where
  -- A tab, a carriage return or a space is passed over.
  passes_blank : {line byte : ℕ} {rest : List ℕ} {all : List Placed} → IsBlank byte → Lexes line rest all → Lexes line (byte ∷ rest) all
  -- A line feed is passed over, and the next line begins.
  passes_line_feed : {line byte : ℕ} {rest : List ℕ} {all : List Placed} → IsLineFeed byte → Lexes (line + 1) rest all → Lexes line (byte ∷ rest) all
  -- `#` begins a comment, which is passed over: it runs to the end of its line, or of the text.
  passes_comment : {line byte : ℕ} {text words rest : List ℕ} {all : List Placed} → IsHash byte → IsSpan IsWithinLine text words rest → Lexes line rest all
      → Lexes line (byte ∷ text) all
  -- A number stands for the value of its digits.
  takes_number : {line : ℕ} {text digits rest : List ℕ} {more : List Placed} → IsDigits text digits rest → IsNumber digits rest → Lexes line rest more
      → Lexes line text (at line (token (number (value_of digits))) ∷ more)
  -- A word that is spelled as a keyword is that keyword.
  takes_keyword : {line : ℕ} {text rest : List ℕ} {which : Keyword} {more : List Placed} → IsWord text (keyword_text which) rest → Lexes line rest more
      → Lexes line text (at line (token (keyword which)) ∷ more)
  -- Any other word is a name.
  takes_name : {line : ℕ} {text word rest : List ℕ} {more : List Placed} → IsWord text word rest → ¬ IsKeyword word → Lexes line rest more
      → Lexes line text (at line (token (name word)) ∷ more)
  -- The longest sign is taken.
  takes_sign : {line : ℕ} {text rest : List ℕ} {mark : Sign} {more : List Placed} → IsSign text mark rest → Lexes line rest more
      → Lexes line text (at line (token (sign mark)) ∷ more)
  -- Digits that are no number are a fault, behind which nothing stands.
  stops_at_number : {line : ℕ} {text digits rest : List ℕ} → IsDigits text digits rest → IsNoNumber digits rest → Lexes line text (at line bad_number ∷ [])
  -- A byte that begins nothing is a fault, behind which nothing stands.
  stops_at_byte : {line byte : ℕ} {rest : List ℕ} → BeginsNothing byte rest → Lexes line (byte ∷ rest) (at line bad_byte ∷ [])
  -- The end of the text is the last token.
  stops_at_end : {line : ℕ} → Lexes line [] (at line (token finish) ∷ [])

-- ---- one step

-- What may stand behind a lexeme: behind the end of the text and behind a fault nothing, and behind any other token what
-- stands in the rest of the text, which begins on this line.
abbrev pub Follows : Lexeme → ℕ → List ℕ → List Placed → Type 0
Follows (token (number value)) line rest more = Lexes line rest more
Follows (token (name word)) line rest more = Lexes line rest more
Follows (token (keyword which)) line rest more = Lexes line rest more
Follows (token (sign mark)) line rest more = Lexes line rest more
Follows (token finish) line rest more = more ≡ []
Follows bad_byte line rest more = more ≡ []
Follows bad_number line rest more = more ≡ []

-- Found stands next in a text that begins on line, and behind it stands rest, which begins on behind.
pub record NextIs (line : ℕ) (text : List ℕ) (found : Placed) (behind : ℕ) (rest : List ℕ) : Type 0 where
  -- What stands in the text is this, and then what follows.
  pub split : (all : List Placed) → Lexes line text all → (more : List Placed) × (all ≡ found ∷ more) × Follows found.lexeme behind rest more
  -- This, and then what follows, stands in the text.
  pub joined : (more : List Placed) → Follows found.lexeme behind rest more → Lexes line text (found ∷ more)

-- The rest is shorter than the text was, unless the end of the text was found.
abbrev pub IsShorter : Lexeme → List ℕ → List ℕ → Type 0
IsShorter (token (number value)) text rest = length rest < length text
IsShorter (token (name word)) text rest = length rest < length text
IsShorter (token (keyword which)) text rest = length rest < length text
IsShorter (token (sign mark)) text rest = length rest < length text
IsShorter (token finish) text rest = length rest ≤ length text
IsShorter bad_byte text rest = length rest < length text
IsShorter bad_number text rest = length rest < length text
