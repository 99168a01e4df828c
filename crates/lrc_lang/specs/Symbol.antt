-- Symbols: what the grammar sees of tokens. A name is its number, and a sign that joins two operands is its operator.
use Rattle.std.specs.Prelude.{ℕ, Bool, List, [], ◌∷◌, ◌++◌, if◌then◌else◌}
use Rattle.std.specs.List.{list_any, position_or_len}
use Rattle.std.specs.Str.{bytes_eq}
use Rattle.lrc_lang.specs.Token.{Token}
use Rattle.lrc_lang.specs.declared.token.Keyword.{Keyword}
use Rattle.lrc_lang.specs.declared.token.Sign.{Sign}
use Rattle.lrc_lang.specs.declared.token.Sign.TheVariants as signs
use Rattle.lrc_program.specs.declared.Operator.{Operator}
use Rattle.lrc_program.specs.declared.Operator.TheVariants.{Add, Subtract, Multiply, Divide, Remainder, Equal, NotEqual}
use Rattle.lrc_program.specs.declared.Operator.TheVariants.{Less, LessOrEqual, Greater, GreaterOrEqual}

pub data Symbol : Type 0 where
  number : ℕ → Symbol
  name : ℕ → Symbol
  operator : Operator → Symbol
  keyword : Keyword → Symbol
  sign : Sign → Symbol
  finish : Symbol

-- private names are bytes, each different one once, in the order in which they first come
abbrev pub Names : Type 0
Names = List (List ℕ)

-- whether a name is among these
abbrev pub is_among : Names → List ℕ → Bool
is_among names bytes = list_any (λ other. bytes_eq other bytes) names

-- the number of a name: how many others came before it
abbrev pub number_of : Names → List ℕ → ℕ
number_of names bytes = position_or_len (λ other. bytes_eq other bytes) names

-- the names once this token has come too
abbrev pub names_with : Names → Token → Names
names_with names (Token.name bytes) = if is_among names bytes then names else names ++ bytes ∷ []
names_with names _ = names

-- what a sign is in the grammar
abbrev pub symbol_of_sign : Sign → Symbol
symbol_of_sign signs.Plus = operator Add
symbol_of_sign signs.Minus = operator Subtract
symbol_of_sign signs.Star = operator Multiply
symbol_of_sign signs.Slash = operator Divide
symbol_of_sign signs.Percent = operator Remainder
symbol_of_sign signs.Equal = operator Equal
symbol_of_sign signs.NotEqual = operator NotEqual
symbol_of_sign signs.Less = operator Less
symbol_of_sign signs.LessOrEqual = operator LessOrEqual
symbol_of_sign signs.Greater = operator Greater
symbol_of_sign signs.GreaterOrEqual = operator GreaterOrEqual
symbol_of_sign other = sign other

-- what a token is in the grammar, where these names came before it
abbrev pub symbol_of : Names → Token → Symbol
symbol_of names (Token.number n) = number n
symbol_of names (Token.name bytes) = name (number_of names bytes)
symbol_of names (Token.keyword word) = keyword word
symbol_of names (Token.sign mark) = symbol_of_sign mark
symbol_of names Token.finish = finish

-- the symbols of tokens, where these names came before them
abbrev pub symbols_after : Names → List Token → List Symbol
symbols_after names [] = []
symbols_after names (token ∷ tokens) = symbol_of names token ∷ symbols_after (names_with names token) tokens

-- the symbols of the tokens of a text
abbrev pub symbols : List Token → List Symbol
symbols = symbols_after []
