-- Words of the lexer's own contracts.
use Rattle.std.specs.Prelude.{◌≡◌, ◌≢◌, ◌<◌, ◌≤◌, ◌-◌, ℕ, List, [], ◌∷◌, length}
use Rattle.lrc_named_tokens.specs.declared.token.Sign.{Sign}
use Rattle.lrc_named_tokens.specs.Token.{number, name, keyword, sign, finish, Lexeme, token, bad_byte, bad_number, Place, Located}
use Rattle.lrc_named_tokens.specs.Lexemes.{sign_text, along, at, Lexes}

-- a lexeme behind which the text goes on: any token but its end
abbrev pub GoesOn : Lexeme → Type 0
GoesOn (token (number value)) = Unit {0}
GoesOn (token (name word)) = Unit {0}
GoesOn (token (keyword which)) = Unit {0}
GoesOn (token (sign mark)) = Unit {0}
GoesOn (token finish) = ⊥
GoesOn bad_byte = ⊥
GoesOn bad_number = ⊥

-- What may stand behind a lexeme: behind the end of the text and behind a fault nothing, and behind any other token what
-- stands in the rest of the text, which begins at this place.
abbrev pub Follows : Lexeme → Place → List ℕ → List Located → Type 0
Follows (token (number value)) p rest more = Lexes p rest more
Follows (token (name word)) p rest more = Lexes p rest more
Follows (token (keyword which)) p rest more = Lexes p rest more
Follows (token (sign mark)) p rest more = Lexes p rest more
Follows (token finish) p rest more = more ≡ []
Follows bad_byte p rest more = more ≡ []
Follows bad_number p rest more = more ≡ []

-- what stands in the rest, which begins at behind, stands in the text too, which begins at p
abbrev pub Passes : Place → List ℕ → Place → List ℕ → Type 0
Passes p text behind rest = (all : List Located) → Lexes behind rest all → Lexes p text all

-- wherever the text begins, found stands at its front, and then what follows in the rest
abbrev pub Takes : List ℕ → Lexeme → List ℕ → Type 0
Takes text found rest = (p : Place) (more : List Located) → Follows found (along (length text - length rest) p) rest more → Lexes p text (at p found ∷ more)

-- Found stands next in a text that begins at p, and behind it stands rest, which begins at behind.
abbrev pub NextIs : Place → List ℕ → Located → Place → List ℕ → Type 0
NextIs p text found behind rest = (more : List Located) → Follows found.lexeme behind rest more → Lexes p text (found ∷ more)

-- The rest is no longer than the text was, and shorter unless the end of the text was found.
pub record IsShorter (found : Lexeme) (text rest : List ℕ) : Type 0 where
  pub within : length rest ≤ length text
  pub less : GoesOn found → length rest < length text

-- ---- signs of two bytes

-- no sign is spelled as this byte and the next one
abbrev pub HasNoLong : ℕ → List ℕ → Type 0
HasNoLong first [] = Unit {0}
HasNoLong first (second ∷ rest) = (mark : Sign) → sign_text mark ≢ first ∷ second ∷ []

-- this sign is spelled as this byte and the next one, and the rest stands behind it
pub record IsLong (first : ℕ) (behind : List ℕ) (mark : Sign) (rest : List ℕ) : Type 0 where
  pub second : ℕ
  pub spelled : sign_text mark ≡ first ∷ second ∷ []
  pub whole : behind ≡ second ∷ rest
