-- The tokens of a core are in the grammar, as those of this core.
use Rattle.std.proofs.Common.{◌≡◌, ℕ, Bool, true, false, List, [], ◌∷◌, map, refl, sym, ap, subst}
use Rattle.lrc_lang.specs.Token.{Token, name, sign}
use Rattle.lrc_lang.specs.Symbol.{Names, Symbol, operator, symbol_of, symbol_of_sign}
use Rattle.lrc_lang.specs.Grammar.{AreStatements, IsBlock, IsExpression, IsFactor, IsStatement, IsSum, IsTerm, Joins, factors, terms, sums, joins}
use Rattle.lrc_lang.specs.Grammar as grammar
use Rattle.lrc_program.specs.Statements as lang
use Rattle.lrc_program.specs.declared.Operator.{Operator}
use Rattle.lrc_program.specs.declared.Operator.TheVariants.{Add, Subtract, Multiply, Divide, Remainder, Equal, NotEqual, Less, LessOrEqual, Greater, GreaterOrEqual}
use Rattle.lrc_lang.specs.declared.token.Sign.TheVariants as signs
use Rattle.lrc_named_core.specs.Tree.{Private, named, own, Expression, Statement, Block, empty, next}
use Rattle.lrc_named_core.specs.Tree as core
use Rattle.lrc_named_text.specs.Expressions.{is_grouped, left_room, private_text, right_room}
use Rattle.lrc_named_text.specs.declared.expression.Room.{Room}
use Rattle.lrc_named_text.specs.declared.expression.Room.TheVariants.{Factor, Term, Sum, Whole}
use Rattle.lrc_named_acts_laws.specs.Coded.{block_coded, coded, statement_coded}
use Rattle.lrc_named_acts_laws.specs.Coded as coding
use Rattle.lrc_named_text_laws.specs.Named.{numbers_among}
use Rattle.lrc_named_text_laws.proofs.Tokens.{block_tokens, else_tokens, expression_tokens, grouped_tokens, sign_of, statement_tokens}

-- what the grammar has where there is room for this
abbrev pub IsIn : Room → lang.Expression → List Symbol → List Symbol → Type 0
IsIn Factor = IsFactor
IsIn Term = IsTerm
IsIn Sum = IsSum
IsIn Whole = IsExpression

from_factor : (room : Room) {e : lang.Expression} {all rest : List Symbol} → IsFactor e all rest → IsIn room e all rest
from_factor Factor h = h
from_factor Term h = grammar.factor h
from_factor Sum h = grammar.term (grammar.factor h)
from_factor Whole h = grammar.one_sum (grammar.term (grammar.factor h))

operator_symbol : (o : Operator) → symbol_of_sign (sign_of o) ≡ operator o
operator_symbol Add = refl
operator_symbol Subtract = refl
operator_symbol Multiply = refl
operator_symbol Divide = refl
operator_symbol Remainder = refl
operator_symbol Equal = refl
operator_symbol NotEqual = refl
operator_symbol Less = refl
operator_symbol LessOrEqual = refl
operator_symbol Greater = refl
operator_symbol GreaterOrEqual = refl

abbrev pub Sy : Names → List Token → List Symbol
Sy names ts = map (symbol_of names) ts

name_number : (names : Names) (x : Private) → symbol_of names (name (private_text x)) ≡ Symbol.name (coding.number_of (numbers_among names) x)
name_number names (named bytes) = refl
name_number names (own k first last) = refl

-- an operator between two operands
abbrev Between : Joins → lang.Expression → List Symbol → List Symbol → Type 0
Between factors = IsTerm
Between terms = IsSum
Between sums = IsExpression

-- what it makes stands where there is room for it, and else in parentheses
placed : (names : Names) (room : Room) (j : Joins) (e : lang.Expression) (inside : List Token → List Token) (ts : List Token)
    → ((us : List Token) → Between j e (Sy names (inside us)) (Sy names us)) → IsIn room e (Sy names (grouped_tokens (is_grouped room j) inside ts)) (Sy names ts)
placed names Factor factors e inside ts h = grammar.parentheses (grammar.one_sum (grammar.term (h (sign signs.CloseParenthesis ∷ ts))))
placed names Factor terms e inside ts h = grammar.parentheses (grammar.one_sum (h (sign signs.CloseParenthesis ∷ ts)))
placed names Factor sums e inside ts h = grammar.parentheses (h (sign signs.CloseParenthesis ∷ ts))
placed names Term factors e inside ts h = h ts
placed names Term terms e inside ts h = grammar.factor (grammar.parentheses (grammar.one_sum (h (sign signs.CloseParenthesis ∷ ts))))
placed names Term sums e inside ts h = grammar.factor (grammar.parentheses (h (sign signs.CloseParenthesis ∷ ts)))
placed names Sum factors e inside ts h = grammar.term (h ts)
placed names Sum terms e inside ts h = h ts
placed names Sum sums e inside ts h = grammar.term (grammar.factor (grammar.parentheses (h (sign signs.CloseParenthesis ∷ ts))))
placed names Whole factors e inside ts h = grammar.one_sum (grammar.term (h ts))
placed names Whole terms e inside ts h = grammar.one_sum (h ts)
placed names Whole sums e inside ts h = h ts

-- an operator joins what stands on its two sides
joined : (names : Names) (o : Operator) (j : Joins) (left right : Expression) (us : List Token) → joins o ≡ j
    → IsIn (left_room j) (coded (numbers_among names) left)
    (Sy names (expression_tokens (left_room j) left (sign (sign_of o) ∷ expression_tokens (right_room j) right us)))
    (Sy names (sign (sign_of o) ∷ expression_tokens (right_room j) right us))
    → IsIn (right_room j) (coded (numbers_among names) right) (Sy names (expression_tokens (right_room j) right us)) (Sy names us)
    → Between j (lang.binary (coded (numbers_among names) left) o (coded (numbers_among names) right))
    (Sy names (expression_tokens (left_room j) left (sign (sign_of o) ∷ expression_tokens (right_room j) right us))) (Sy names us)
joined names o factors left right us is l r =
    grammar.product
    (subst (λ x. IsTerm (coded (numbers_among names) left) (Sy names (expression_tokens Term left (sign (sign_of o) ∷ expression_tokens Factor right us)))
    (x ∷ Sy names (expression_tokens Factor right us))) (operator_symbol o) l) is r
joined names o terms left right us is l r =
    grammar.sum
    (subst (λ x. IsSum (coded (numbers_among names) left) (Sy names (expression_tokens Sum left (sign (sign_of o) ∷ expression_tokens Term right us)))
    (x ∷ Sy names (expression_tokens Term right us))) (operator_symbol o) l) is r
joined names o sums left right us is l r =
    grammar.comparison
    (subst (λ x. IsSum (coded (numbers_among names) left) (Sy names (expression_tokens Sum left (sign (sign_of o) ∷ expression_tokens Sum right us)))
    (x ∷ Sy names (expression_tokens Sum right us))) (operator_symbol o) l) is r

pub expression_parsed : (names : Names) (e : Expression) (room : Room) (ts : List Token)
    → IsIn room (coded (numbers_among names) e) (Sy names (expression_tokens room e ts)) (Sy names ts)
expression_parsed names (core.number n) room ts = from_factor room grammar.a_number
expression_parsed names (core.private x) room ts =
    from_factor room (subst (λ s. IsFactor (lang.private (coding.number_of (numbers_among names) x)) (s ∷ Sy names ts) (Sy names ts)) (sym (name_number names x)) grammar.a_name)
expression_parsed names core.me room ts = from_factor room grammar.me
expression_parsed names core.nodes room ts = from_factor room grammar.nodes
expression_parsed names (core.binary left o right) room ts =
    placed names room (joins o) (lang.binary (coded (numbers_among names) left) o (coded (numbers_among names) right))
    (λ us. expression_tokens (left_room (joins o)) left (sign (sign_of o) ∷ expression_tokens (right_room (joins o)) right us)) ts
    (λ us. joined names o (joins o) left right us refl
    (expression_parsed names left (left_room (joins o)) (sign (sign_of o) ∷ expression_tokens (right_room (joins o)) right us))
    (expression_parsed names right (right_room (joins o)) us))

-- a whole expression
whole : (names : Names) (e : Expression) (ts : List Token) → IsExpression (coded (numbers_among names) e) (Sy names (expression_tokens Whole e ts)) (Sy names ts)
whole names e ts = expression_parsed names e Whole ts

-- what sets a name begins with it
sets : (names : Names) (x : Private) {s : lang.Statement} {more rest : List Symbol}
    → IsStatement s (Symbol.name (coding.number_of (numbers_among names) x) ∷ more) rest → IsStatement s (symbol_of names (name (private_text x)) ∷ more) rest
sets names x {s} {more} {rest} h = subst (λ y. IsStatement s (y ∷ more) rest) (sym (name_number names x)) h

mutual
  pub statement_parsed : (names : Names) (s : Statement) (ts : List Token)
      → IsStatement (statement_coded (numbers_among names) s) (Sy names (statement_tokens s ts)) (Sy names ts)
  statement_parsed names (core.assign origin x value) ts = sets names x (grammar.assign (whole names value (sign signs.Semicolon ∷ ts)))
  statement_parsed names (core.read origin x word) ts = sets names x (grammar.read (whole names word (sign signs.CloseBracket ∷ sign signs.Semicolon ∷ ts)))
  statement_parsed names (core.write origin word value) ts =
      grammar.write (whole names word (sign signs.CloseBracket ∷ sign signs.Assign ∷ expression_tokens Whole value (sign signs.Semicolon ∷ ts)))
      (whole names value (sign signs.Semicolon ∷ ts))
  statement_parsed names (core.acquire origin word) ts = grammar.acquire (whole names word (sign signs.Semicolon ∷ ts))
  statement_parsed names (core.release origin word) ts = grammar.release (whole names word (sign signs.Semicolon ∷ ts))
  statement_parsed names (core.barrier origin) ts = grammar.barrier
  statement_parsed names (core.print origin value) ts = grammar.print (whole names value (sign signs.Semicolon ∷ ts))
  statement_parsed names (core.if_else origin condition first empty) ts =
      grammar.if_alone (whole names condition (sign signs.OpenBrace ∷ block_tokens first (sign signs.CloseBrace ∷ ts)))
      (grammar.braces (block_parsed names first (sign signs.CloseBrace ∷ ts)))
  statement_parsed names (core.if_else origin condition first (next one others)) ts =
      grammar.if_else (whole names condition (sign signs.OpenBrace ∷ block_tokens first (sign signs.CloseBrace ∷ else_tokens (next one others) ts)))
      (grammar.braces (block_parsed names first (sign signs.CloseBrace ∷ else_tokens (next one others) ts)))
      (grammar.braces (grammar.one_more (statement_parsed names one (block_tokens others (sign signs.CloseBrace ∷ ts)))
      (block_parsed names others (sign signs.CloseBrace ∷ ts))))
  statement_parsed names (core.while_do origin condition inside) ts =
      grammar.while_do (whole names condition (sign signs.OpenBrace ∷ block_tokens inside (sign signs.CloseBrace ∷ ts)))
      (grammar.braces (block_parsed names inside (sign signs.CloseBrace ∷ ts)))

  pub block_parsed : (names : Names) (b : Block) (ts : List Token)
      → AreStatements (block_coded (numbers_among names) b) (Sy names (block_tokens b ts)) (Sy names ts)
  block_parsed names empty ts = grammar.none
  block_parsed names (next first others) ts = grammar.one_more (statement_parsed names first (block_tokens others ts)) (block_parsed names others ts)
