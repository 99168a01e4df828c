-- How the private names of a text are spelled.
use Rattle.std.specs.Prelude.{◌≡◌, ℕ, List, [], fold, slice_index_or}
use Rattle.lrc_lang.specs.Positions.{Located, HasLocated}
use Rattle.lrc_lang.specs.Symbol.{Names, names_with}
use Rattle.lrc_lang.specs.Token.{Lexeme, token}

-- the names once this stands there too
abbrev pub names_through : Names → Lexeme → Names
names_through names (token t) = names_with names t
names_through names _ = names

-- the different names of what stands in a text, in the order in which they first come
abbrev pub names_in : List Located → Names
names_in = fold (λ names found. names_through names found.lexeme) []

-- these are the private names of the text
pub record AreNamesOf (text : List ℕ) (names : Names) : Type 0 where
  pub all : List Located
  pub are : HasLocated text all
  pub each : names ≡ names_in all

-- how the name of this number is spelled
abbrev pub spelling : Names → ℕ → List ℕ
spelling names name = slice_index_or names name []
