-- What a token joins two operands to.
use Rattle.std.specs.Prelude.{Option, Some, None}
use Rattle.lrc_program.specs.declared.Operator.{Operator}
use Rattle.lrc_program.specs.declared.Operator.TheVariants.{Add, Subtract, Multiply, Divide, Remainder, Equal, NotEqual}
use Rattle.lrc_program.specs.declared.Operator.TheVariants.{Less, LessOrEqual, Greater, GreaterOrEqual}
use Rattle.lrc_named_tokens.specs.declared.token.Keyword.{Keyword}
use Rattle.lrc_named_tokens.specs.declared.token.Keyword.TheVariants as keywords
use Rattle.lrc_named_tokens.specs.declared.token.Sign.{Sign}
use Rattle.lrc_named_tokens.specs.declared.token.Sign.TheVariants as signs
use Rattle.lrc_named_tokens.specs.Token.{Token, keyword, sign}

-- factors to a term, terms to a sum, two sums that are compared, tests of which each has to hold, or of which one has to
pub data Link : Type 0 where
  factors : Operator → Link
  terms : Operator → Link
  sums : Operator → Link
  all_hold : Link
  one_holds : Link

abbrev pub link_of_sign : Sign → Option Link
link_of_sign signs.Star = Some (factors Multiply)
link_of_sign signs.Slash = Some (factors Divide)
link_of_sign signs.Percent = Some (factors Remainder)
link_of_sign signs.Plus = Some (terms Add)
link_of_sign signs.Minus = Some (terms Subtract)
link_of_sign signs.Equal = Some (sums Equal)
link_of_sign signs.NotEqual = Some (sums NotEqual)
link_of_sign signs.Less = Some (sums Less)
link_of_sign signs.LessOrEqual = Some (sums LessOrEqual)
link_of_sign signs.Greater = Some (sums Greater)
link_of_sign signs.GreaterOrEqual = Some (sums GreaterOrEqual)
link_of_sign _ = None

abbrev pub link_of_keyword : Keyword → Option Link
link_of_keyword keywords.And = Some all_hold
link_of_keyword keywords.Or = Some one_holds
link_of_keyword _ = None

abbrev pub link_of : Token → Option Link
link_of (sign mark) = link_of_sign mark
link_of (keyword word) = link_of_keyword word
link_of _ = None
