-- Words of the lexer's own contracts.
use Rattle.std.specs.Prelude.{ℕ, ◌⊎◌, List, ◌∷◌}
use Rattle.lrc_lang.specs.declared.lexer.Class.{Class}
use Rattle.lrc_lang.specs.declared.lexer.Class.TheVariants as classes
use Rattle.lrc_lang.specs.Token.{Lexeme, Placed}
use Rattle.lrc_lang.specs.Lexemes.{IsBlank, IsLineFeed, IsHash, IsDigit, IsLetterOrDigit, IsWithinLine, BeginsWith, at, Lexes, Follows}

-- which bytes a class has
abbrev pub Has : Class → ℕ → Type 0
Has classes.Digit byte = IsDigit byte
Has classes.Word byte = IsLetterOrDigit byte
Has classes.Comment byte = IsWithinLine byte

-- nothing at the front of the text is to be passed over
abbrev pub IsReady : List ℕ → Type 0
IsReady text = ¬ BeginsWith (λ byte. IsBlank byte ⊎ IsLineFeed byte ⊎ IsHash byte) text

-- what stands in the rest, which begins on behind, stands in the text too, which begins on line
abbrev pub Passes : ℕ → List ℕ → ℕ → List ℕ → Type 0
Passes line text behind rest = (all : List Placed) → Lexes behind rest all → Lexes line text all

-- on any line, found stands at the front of the text, and then what follows in the rest
abbrev pub Takes : List ℕ → Lexeme → List ℕ → Type 0
Takes text found rest = (line : ℕ) (more : List Placed) → Follows found line rest more → Lexes line text (at line found ∷ more)
