-- The numbers of a program that a text is of are those of its tokens, and each of them fits 64 bits.
use Rattle.std.proofs.Common.{◌≡◌, ℕ, List, [], ◌∷◌, ◌++◌, map, sym, subst, ap, ap₂}
use Rattle.lrc_lang.specs.declared.token.Sign.{Sign}
use Rattle.lrc_lang.specs.declared.token.Sign.TheVariants as signs
use Rattle.lrc_lang.specs.Token.{Token, Lexeme, token, Placed}
use Rattle.lrc_lang.specs.Lexemes.{Lexes, passes_blank, passes_line_feed, passes_comment, takes_number, takes_keyword}
use Rattle.lrc_lang.specs.Lexemes.{takes_name, takes_sign}
use Rattle.lrc_lang.specs.Lexemes.{stops_at_number, stops_at_byte, stops_at_end}
use Rattle.lrc_lang.specs.Symbol.{Symbol, Names, names_with, symbol_of, symbol_of_sign, symbols_after, symbols}
use Rattle.lrc_program.specs.Statements.{Expression, Statement, Block}
use Rattle.lrc_program.specs.Tree.{ProgramTree}
use Rattle.lrc_lang.specs.Grammar.{IsFactor, a_number, a_name, parentheses, IsTerm, factor, product, IsSum, term, sum}
use Rattle.lrc_lang.specs.Grammar.{IsExpression, one_sum}
use Rattle.lrc_lang.specs.Grammar.{comparison, IsStatement, IsBlock, braces, AreStatements, none, one_more, AreSymbolsOf, program}
use Rattle.lrc_lang.specs.Grammar as grammar
use Rattle.lrc_lang.specs.Faults.{AreFaultless, IsText}
use Rattle.lrc_acts.specs.Printed.{IsValue}

-- each number of an expression fits 64 bits
abbrev pub HasValues : Expression → Type 0
HasValues (Expression.number n) = IsValue n
HasValues (Expression.binary left o right) = HasValues left × HasValues right
HasValues _ = Unit {0}

-- each number of a statement does, and of a block
abbrev mutual
  pub HasValuesIn : Statement → Type 0
  HasValuesIn (Statement.assign k value) = HasValues value
  HasValuesIn (Statement.read k word) = HasValues word
  HasValuesIn (Statement.write word value) = HasValues word × HasValues value
  HasValuesIn (Statement.acquire l) = HasValues l
  HasValuesIn (Statement.release l) = HasValues l
  HasValuesIn Statement.barrier = Unit {0}
  HasValuesIn (Statement.print value) = HasValues value
  HasValuesIn (Statement.if_else condition first second) = HasValues condition × HasValuesOf first × HasValuesOf second
  HasValuesIn (Statement.while_do condition inside) = HasValues condition × HasValuesOf inside

  pub HasValuesOf : Block → Type 0
  HasValuesOf Block.empty = Unit {0}
  HasValuesOf (Block.next first others) = HasValuesIn first × HasValuesOf others

-- each number among symbols does
abbrev IsFitting : Symbol → Type 0
IsFitting (Symbol.number n) = IsValue n
IsFitting _ = Unit {0}

abbrev AreFitting : List Symbol → Type 0
AreFitting [] = Unit {0}
AreFitting (symbol ∷ rest) = IsFitting symbol × AreFitting rest

-- ---- expressions

mutual
  of_factor : {e : Expression} {all rest : List Symbol} → IsFactor e all rest → AreFitting all → HasValues e × AreFitting rest
  of_factor a_number fit = (fit.0, fit.1)
  of_factor a_name fit = (tt, fit.1)
  of_factor grammar.me fit = (tt, fit.1)
  of_factor grammar.nodes fit = (tt, fit.1)
  of_factor (parentheses d) fit = let inside = of_expression d fit.1 in (inside.0, inside.1.1)

  of_term : {e : Expression} {all rest : List Symbol} → IsTerm e all rest → AreFitting all → HasValues e × AreFitting rest
  of_term (factor d) fit = of_factor d fit
  of_term (product l j r) fit = let left = of_term l fit in let right = of_factor r left.1.1 in ((left.0, right.0), right.1)

  of_sum : {e : Expression} {all rest : List Symbol} → IsSum e all rest → AreFitting all → HasValues e × AreFitting rest
  of_sum (term d) fit = of_term d fit
  of_sum (sum l j r) fit = let left = of_sum l fit in let right = of_term r left.1.1 in ((left.0, right.0), right.1)

  of_expression : {e : Expression} {all rest : List Symbol} → IsExpression e all rest → AreFitting all → HasValues e × AreFitting rest
  of_expression (one_sum d) fit = of_sum d fit
  of_expression (comparison l j r) fit = let left = of_sum l fit in let right = of_sum r left.1.1 in ((left.0, right.0), right.1)

-- ---- statements

mutual
  of_statement : {s : Statement} {all rest : List Symbol} → IsStatement s all rest → AreFitting all → HasValuesIn s × AreFitting rest
  of_statement (grammar.assign d) fit = let e = of_expression d fit.1.1 in (e.0, e.1.1)
  of_statement (grammar.read d) fit = let e = of_expression d fit.1.1.1 in (e.0, e.1.1.1)
  of_statement (grammar.write d q) fit =
      let e = of_expression d fit.1 in
      let f = of_expression q e.1.1.1 in
      ((e.0, f.0), f.1.1)
  of_statement (grammar.acquire d) fit = let e = of_expression d fit.1 in (e.0, e.1.1)
  of_statement (grammar.release d) fit = let e = of_expression d fit.1 in (e.0, e.1.1)
  of_statement grammar.barrier fit = (tt, fit.1.1)
  of_statement (grammar.print d) fit = let e = of_expression d fit.1 in (e.0, e.1.1)
  of_statement (grammar.if_alone d b) fit =
      let e = of_expression d fit.1 in
      let i = of_block b e.1 in
      ((e.0, i.0, tt), i.1)
  of_statement (grammar.if_else d b q) fit =
      let e = of_expression d fit.1 in
      let i = of_block b e.1 in
      let j = of_block q i.1.1 in
      ((e.0, i.0, j.0), j.1)
  of_statement (grammar.while_do d b) fit =
      let e = of_expression d fit.1 in
      let i = of_block b e.1 in
      ((e.0, i.0), i.1)

  of_block : {b : Block} {all rest : List Symbol} → IsBlock b all rest → AreFitting all → HasValuesOf b × AreFitting rest
  of_block (braces d) fit = let i = of_statements d fit.1 in (i.0, i.1.1)

  of_statements : {b : Block} {all rest : List Symbol} → AreStatements b all rest → AreFitting all → HasValuesOf b × AreFitting rest
  of_statements none fit = (tt, fit)
  of_statements (one_more d ds) fit =
      let s = of_statement d fit in
      let b = of_statements ds s.1 in
      ((s.0, b.0), b.1)

of_program : (p : ProgramTree) (all : List Symbol) → AreSymbolsOf p all → AreFitting all → HasValuesOf p.statements
of_program p all (program d) fit = (of_statements d fit.1.1.1.1.1.1).0

-- ---- tokens

-- each number among what stands in a text fits
abbrev FitsLexeme : Lexeme → Type 0
FitsLexeme (token (Token.number n)) = IsValue n
FitsLexeme _ = Unit {0}

abbrev FitLexemes : List Lexeme → Type 0
FitLexemes [] = Unit {0}
FitLexemes (found ∷ rest) = FitsLexeme found × FitLexemes rest

lexed_fit : {line : ℕ} {text : List ℕ} {all : List Placed} → Lexes line text all → FitLexemes (map (λ found. found.lexeme) all)
lexed_fit (passes_blank h inside) = lexed_fit inside
lexed_fit (passes_line_feed h inside) = lexed_fit inside
lexed_fit (passes_comment h span inside) = lexed_fit inside
lexed_fit (takes_number h is inside) = (is.in_range, lexed_fit inside)
lexed_fit (takes_keyword h inside) = (tt, lexed_fit inside)
lexed_fit (takes_name h is inside) = (tt, lexed_fit inside)
lexed_fit (takes_sign is inside) = (tt, lexed_fit inside)
lexed_fit (stops_at_number h bad) = (tt, tt)
lexed_fit (stops_at_byte h) = (tt, tt)
lexed_fit stops_at_end = (tt, tt)

sign_fits : (mark : Sign) → IsFitting (symbol_of_sign mark)
sign_fits = elim [
  | signs.Semicolon ↦ tt
  | signs.Assign ↦ tt
  | signs.OpenBracket ↦ tt
  | signs.CloseBracket ↦ tt
  | signs.OpenBrace ↦ tt
  | signs.CloseBrace ↦ tt
  | signs.OpenParenthesis ↦ tt
  | signs.CloseParenthesis ↦ tt
  | signs.Plus ↦ tt
  | signs.Minus ↦ tt
  | signs.Star ↦ tt
  | signs.Slash ↦ tt
  | signs.Percent ↦ tt
  | signs.Equal ↦ tt
  | signs.NotEqual ↦ tt
  | signs.Less ↦ tt
  | signs.LessOrEqual ↦ tt
  | signs.Greater ↦ tt
  | signs.GreaterOrEqual ↦ tt
]

symbol_fits : (names : Names) (t : Token) → FitsLexeme (token t) → IsFitting (symbol_of names t)
symbol_fits names (Token.number n) fits = fits
symbol_fits names (Token.name bytes) fits = tt
symbol_fits names (Token.keyword which) fits = tt
symbol_fits names (Token.sign mark) fits = sign_fits mark
symbol_fits names Token.finish fits = tt

symbols_fit : (names : Names) (tokens : List Token) → FitLexemes (map token tokens) → AreFitting (symbols_after names tokens)
symbols_fit names [] fit = tt
symbols_fit names (t ∷ tokens) fit = (symbol_fits names t fit.0, symbols_fit (names_with names t) tokens fit.1)

-- ---- texts

-- what stands in a text without a fault is its tokens
are_tokens : (before : List Token) (lexemes : List Placed) (tokens : List Token) → AreFaultless before lexemes tokens
    → map (λ found. found.lexeme) lexemes ≡ map token tokens
are_tokens before [] tokens are = ap (map token) (sym are)
are_tokens before (found ∷ others) [] are = absurd are
are_tokens before (found ∷ others) (t ∷ tokens) are =
    ap₂ (λ (x : Lexeme) (xs : List Lexeme). x ∷ xs) are.0 (are_tokens (before ++ t ∷ []) others tokens are.2)

-- the numbers of a program that a text is of
pub text_values : (text : List ℕ) (p : ProgramTree) → IsText text p → HasValuesOf p.statements
text_values text p is =
    let are = are_tokens [] is.lexemes is.tokens is.faultless in
    of_program p (symbols is.tokens) is.parsed (symbols_fit [] is.tokens (subst FitLexemes are (lexed_fit is.lexed)))
