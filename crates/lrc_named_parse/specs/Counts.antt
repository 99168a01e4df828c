-- What the limits count, over the tokens so far.
use Rattle.std.specs.Prelude.{ℕ, zero, suc, ◌+◌, ◌-◌, ◌≤◌, List, fold}
use Rattle.lrc_named_tokens.specs.declared.token.Keyword.{Keyword}
use Rattle.lrc_named_tokens.specs.declared.token.Keyword.TheVariants as keywords
use Rattle.lrc_named_tokens.specs.declared.token.Sign.{Sign}
use Rattle.lrc_named_tokens.specs.declared.token.Sign.TheVariants as signs
use Rattle.lrc_named_tokens.specs.Token.{Token, keyword, sign}

-- ---- brackets

abbrev pub IsOpening : Token → Type 0
IsOpening (sign signs.OpenBrace) = Unit {0}
IsOpening (sign signs.OpenParenthesis) = Unit {0}
IsOpening (sign signs.OpenBracket) = Unit {0}
IsOpening _ = ⊥

-- how many `{`, `(` and `[` are open, once this token has come too
abbrev pub open_with : ℕ → Token → ℕ
open_with count (sign signs.OpenBrace) = count + 1
open_with count (sign signs.OpenParenthesis) = count + 1
open_with count (sign signs.OpenBracket) = count + 1
open_with count (sign signs.CloseBrace) = count - 1
open_with count (sign signs.CloseParenthesis) = count - 1
open_with count (sign signs.CloseBracket) = count - 1
open_with count _ = count

abbrev pub open_of : List Token → ℕ
open_of = fold open_with 0

-- where this many are open, it would be the 33rd open one
abbrev pub IsTooDeep : ℕ → Token → Type 0
IsTooDeep count t = IsOpening t × (32 ≤ count)

-- ---- operators

abbrev pub IsOperator : Token → Type 0
IsOperator (sign signs.Plus) = Unit {0}
IsOperator (sign signs.Minus) = Unit {0}
IsOperator (sign signs.Star) = Unit {0}
IsOperator (sign signs.Slash) = Unit {0}
IsOperator (sign signs.Percent) = Unit {0}
IsOperator (sign signs.Equal) = Unit {0}
IsOperator (sign signs.NotEqual) = Unit {0}
IsOperator (sign signs.Less) = Unit {0}
IsOperator (sign signs.LessOrEqual) = Unit {0}
IsOperator (sign signs.Greater) = Unit {0}
IsOperator (sign signs.GreaterOrEqual) = Unit {0}
IsOperator (keyword keywords.And) = Unit {0}
IsOperator (keyword keywords.Or) = Unit {0}
IsOperator (keyword keywords.Not) = Unit {0}
IsOperator _ = ⊥

-- Whether the next token stands in an expression that is none's part, and if so, how many brackets are open within it and
-- how many operators of it have come.
pub data Counted : Type 0 where
  apart : Counted
  within : ℕ → ℕ → Counted

-- an expression begins
abbrev pub begun : Counted
begun = within 0 0

-- Outside of expressions one begins behind what sets something, behind the words that a value or a condition follows, and
-- in a bracket, where an index of a place or a size stands.
abbrev pub apart_with : Token → Counted
apart_with (sign signs.Assign) = begun
apart_with (sign signs.AddAssign) = begun
apart_with (sign signs.SubtractAssign) = begun
apart_with (sign signs.OpenBracket) = begun
apart_with (keyword keywords.Print) = begun
apart_with (keyword keywords.Assert) = begun
apart_with (keyword keywords.If) = begun
apart_with (keyword keywords.While) = begun
apart_with (keyword keywords.In) = begun
apart_with _ = apart

-- Behind the last bracket that is open within an expression, its own `]` ends it, and a `,` begins another one.
abbrev pub closed_with : ℕ → ℕ → Counted
closed_with zero count = apart
closed_with (suc brackets) count = within brackets count

abbrev pub separated_with : ℕ → ℕ → Counted
separated_with zero count = begun
separated_with (suc brackets) count = within (suc brackets) count

abbrev pub sign_within : ℕ → ℕ → Sign → Counted
sign_within brackets count signs.OpenParenthesis = within (brackets + 1) count
sign_within brackets count signs.OpenBracket = within (brackets + 1) count
sign_within brackets count signs.CloseParenthesis = closed_with brackets count
sign_within brackets count signs.CloseBracket = closed_with brackets count
sign_within brackets count signs.Comma = separated_with brackets count
sign_within brackets count signs.Range = begun
sign_within brackets count signs.Semicolon = apart
sign_within brackets count signs.OpenBrace = apart
sign_within brackets count signs.CloseBrace = apart
sign_within brackets count signs.Plus = within brackets (count + 1)
sign_within brackets count signs.Minus = within brackets (count + 1)
sign_within brackets count signs.Star = within brackets (count + 1)
sign_within brackets count signs.Slash = within brackets (count + 1)
sign_within brackets count signs.Percent = within brackets (count + 1)
sign_within brackets count signs.Equal = within brackets (count + 1)
sign_within brackets count signs.NotEqual = within brackets (count + 1)
sign_within brackets count signs.Less = within brackets (count + 1)
sign_within brackets count signs.LessOrEqual = within brackets (count + 1)
sign_within brackets count signs.Greater = within brackets (count + 1)
sign_within brackets count signs.GreaterOrEqual = within brackets (count + 1)
sign_within brackets count _ = within brackets count

abbrev pub keyword_within : ℕ → ℕ → Keyword → Counted
keyword_within brackets count keywords.And = within brackets (count + 1)
keyword_within brackets count keywords.Or = within brackets (count + 1)
keyword_within brackets count keywords.Not = within brackets (count + 1)
keyword_within brackets count _ = within brackets count

-- once this token has come too
abbrev pub counted_with : Counted → Token → Counted
counted_with apart t = apart_with t
counted_with (within brackets count) (sign mark) = sign_within brackets count mark
counted_with (within brackets count) (keyword word) = keyword_within brackets count word
counted_with (within brackets count) _ = within brackets count

abbrev pub counted_of : List Token → Counted
counted_of = fold counted_with apart

-- how many operators of the expression in which the next token stands have come
abbrev pub operators_in : Counted → ℕ
operators_in apart = 0
operators_in (within brackets count) = count

-- behind so many operators of an expression, it would be its 257th one
abbrev pub IsOperatorTooMany : Counted → Token → Type 0
IsOperatorTooMany counted t = IsOperator t × (256 ≤ operators_in counted)
