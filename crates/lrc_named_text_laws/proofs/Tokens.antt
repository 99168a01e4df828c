-- The tokens of a core, and then those behind it.
use Rattle.std.proofs.Common.{ℕ, Bool, true, false, List, [], ◌∷◌}
use Rattle.lrc_lang.specs.Token.{Token, number, name, keyword, sign}
use Rattle.lrc_lang.specs.Token as token
use Rattle.lrc_lang.specs.Grammar.{Joins, joins}
use Rattle.lrc_program.specs.declared.Operator.{Operator}
use Rattle.lrc_program.specs.declared.Operator.TheVariants as operators
use Rattle.lrc_lang.specs.declared.token.Keyword.TheVariants as keywords
use Rattle.lrc_lang.specs.declared.token.Sign.{Sign}
use Rattle.lrc_lang.specs.declared.token.Sign.TheVariants as signs
use Rattle.lrc_named_core.specs.Tree.{Private, Expression, Statement, Block}
use Rattle.lrc_named_core.specs.Tree as core
use Rattle.lrc_named_text.specs.Expressions.{is_grouped, left_room, private_text, right_room}
use Rattle.lrc_named_text.specs.declared.expression.Room.{Room}
use Rattle.lrc_named_text.specs.declared.expression.Room.TheVariants.{Whole}

abbrev pub sign_of : Operator → Sign
sign_of operators.Add = signs.Plus
sign_of operators.Subtract = signs.Minus
sign_of operators.Multiply = signs.Star
sign_of operators.Divide = signs.Slash
sign_of operators.Remainder = signs.Percent
sign_of operators.Equal = signs.Equal
sign_of operators.NotEqual = signs.NotEqual
sign_of operators.Less = signs.Less
sign_of operators.LessOrEqual = signs.LessOrEqual
sign_of operators.Greater = signs.Greater
sign_of operators.GreaterOrEqual = signs.GreaterOrEqual

abbrev pub grouped_tokens : Bool → (List Token → List Token) → List Token → List Token
grouped_tokens true inside ts = sign signs.OpenParenthesis ∷ inside (sign signs.CloseParenthesis ∷ ts)
grouped_tokens false inside ts = inside ts

abbrev pub expression_tokens : Room → Expression → List Token → List Token
expression_tokens room (core.number n) ts = number n ∷ ts
expression_tokens room (core.private x) ts = name (private_text x) ∷ ts
expression_tokens room core.me ts = keyword keywords.Me ∷ ts
expression_tokens room core.nodes ts = keyword keywords.Nodes ∷ ts
expression_tokens room (core.binary left o right) ts =
    grouped_tokens (is_grouped room (joins o))
    (λ rest. expression_tokens (left_room (joins o)) left (sign (sign_of o) ∷ expression_tokens (right_room (joins o)) right rest)) ts

abbrev mutual
  pub statement_tokens : Statement → List Token → List Token
  statement_tokens (core.assign origin x value) ts =
      name (private_text x) ∷ sign signs.Assign ∷ expression_tokens Whole value (sign signs.Semicolon ∷ ts)
  statement_tokens (core.read origin x word) ts =
      name (private_text x) ∷ sign signs.Assign ∷ sign signs.OpenBracket ∷ expression_tokens Whole word (sign signs.CloseBracket ∷ sign signs.Semicolon ∷ ts)
  statement_tokens (core.write origin word value) ts =
      sign signs.OpenBracket ∷ expression_tokens Whole word
      (sign signs.CloseBracket ∷ sign signs.Assign ∷ expression_tokens Whole value (sign signs.Semicolon ∷ ts))
  statement_tokens (core.acquire origin word) ts = keyword keywords.Acquire ∷ expression_tokens Whole word (sign signs.Semicolon ∷ ts)
  statement_tokens (core.release origin word) ts = keyword keywords.Release ∷ expression_tokens Whole word (sign signs.Semicolon ∷ ts)
  statement_tokens (core.barrier origin) ts = keyword keywords.Barrier ∷ sign signs.Semicolon ∷ ts
  statement_tokens (core.print origin value) ts = keyword keywords.Print ∷ expression_tokens Whole value (sign signs.Semicolon ∷ ts)
  statement_tokens (core.if_else origin condition first second) ts =
      keyword keywords.If ∷ expression_tokens Whole condition (sign signs.OpenBrace ∷ block_tokens first (sign signs.CloseBrace ∷ else_tokens second ts))
  statement_tokens (core.while_do origin condition inside) ts =
      keyword keywords.While ∷ expression_tokens Whole condition (sign signs.OpenBrace ∷ block_tokens inside (sign signs.CloseBrace ∷ ts))

  pub block_tokens : Block → List Token → List Token
  block_tokens core.empty ts = ts
  block_tokens (core.next first others) ts = statement_tokens first (block_tokens others ts)

  pub else_tokens : Block → List Token → List Token
  else_tokens core.empty ts = ts
  else_tokens (core.next first others) ts =
      keyword keywords.Else ∷ sign signs.OpenBrace ∷ statement_tokens first (block_tokens others (sign signs.CloseBrace ∷ ts))

-- those of its text
abbrev pub program_tokens : (words locks : ℕ) → Block → List Token
program_tokens words locks statements =
    keyword keywords.Words ∷ number words ∷ sign signs.Semicolon ∷ keyword keywords.Locks ∷ number locks ∷ sign signs.Semicolon
    ∷ block_tokens statements (token.finish ∷ [])
