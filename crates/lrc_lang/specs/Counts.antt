-- What the limits count, over the tokens so far.
use Rattle.std.specs.Prelude.{ℕ, ◌+◌, ◌-◌, ◌≤◌, List, [], length, fold, IsFalse, Option, Some, None}
use Rattle.lrc_lang.specs.declared.token.Keyword.TheVariants as keywords
use Rattle.lrc_lang.specs.declared.token.Sign.TheVariants as signs
use Rattle.lrc_lang.specs.Token.{Token, name, sign}
use Rattle.lrc_lang.specs.Symbol.{Symbol, Names, names_with, is_among, symbol_of}

-- the different private names
abbrev pub names_of : List Token → Names
names_of = fold names_with []

-- how many `{` and `(` are open, once this token has come too
abbrev pub open_with : ℕ → Token → ℕ
open_with count (sign signs.OpenBrace) = count + 1
open_with count (sign signs.OpenParenthesis) = count + 1
open_with count (sign signs.CloseBrace) = count - 1
open_with count (sign signs.CloseParenthesis) = count - 1
open_with count _ = count

abbrev pub open_of : List Token → ℕ
open_of = fold open_with 0

-- how many operators have come since the last symbol that no expression has, once this symbol has come too
abbrev pub operators_with : ℕ → Symbol → ℕ
operators_with count (Symbol.operator o) = count + 1
operators_with count (Symbol.number n) = count
operators_with count (Symbol.name k) = count
operators_with count (Symbol.keyword keywords.Me) = count
operators_with count (Symbol.keyword keywords.Nodes) = count
operators_with count (Symbol.sign signs.OpenParenthesis) = count
operators_with count (Symbol.sign signs.CloseParenthesis) = count
operators_with count _ = 0

-- how many operators the expression has in which the tokens end
abbrev pub operators_of : List Token → ℕ
operators_of = fold (λ count t. operators_with count (symbol_of [] t)) 0

abbrev pub last_of : List Token → Option Token
last_of = fold (λ _ t. Some t) None

-- ---- the limits that a token may pass

abbrev pub IsOpening : Token → Type 0
IsOpening (sign signs.OpenBrace) = Unit {0}
IsOpening (sign signs.OpenParenthesis) = Unit {0}
IsOpening _ = ⊥

-- where this many are open, it would be the 33rd open one
abbrev pub IsTooDeep : ℕ → Token → Type 0
IsTooDeep count t = IsOpening t × (32 ≤ count)

-- behind these names, it would be the 33rd different one
abbrev pub IsNameTooMany : Names → Token → Type 0
IsNameTooMany names (name bytes) = IsFalse (is_among names bytes) × (32 ≤ length names)
IsNameTooMany names _ = ⊥

abbrev pub IsOperator : Symbol → Type 0
IsOperator (Symbol.operator o) = Unit {0}
IsOperator _ = ⊥

-- behind this many operators of an expression, it would be its 257th one
abbrev pub IsOperatorTooMany : ℕ → Token → Type 0
IsOperatorTooMany count t = IsOperator (symbol_of [] t) × (256 ≤ count)
