-- The grammar. `IsTerm e symbols rest` says that the symbols are those of the term e, and then the rest; and so for
-- the others. Each case is one rule.
use Rattle.std.specs.Prelude.{◌≡◌, ℕ, List, [], ◌∷◌}
use Rattle.lrc_lang.specs.Token.{Token}
use Rattle.lrc_lang.specs.Symbol.{Symbol, number, name, operator, keyword, sign, finish, symbols}
use Rattle.lrc_program.specs.Tree.{Expression, Statement, Block, ProgramTree}
use Rattle.lrc_lang.specs.declared.token.Keyword.TheVariants.{Words, Locks, Acquire, Release, Barrier, Print, If, Else, While, Me, Nodes}
use Rattle.lrc_lang.specs.declared.token.Sign.TheVariants.{Semicolon, Assign, OpenBracket, CloseBracket, OpenBrace}
use Rattle.lrc_lang.specs.declared.token.Sign.TheVariants.{CloseBrace, OpenParenthesis, CloseParenthesis}
use Rattle.lrc_program.specs.declared.Operator.{Operator}
use Rattle.lrc_program.specs.declared.Operator.TheVariants.{Add, Subtract, Multiply, Divide, Remainder, Equal, NotEqual}
use Rattle.lrc_program.specs.declared.Operator.TheVariants.{Less, LessOrEqual, Greater, GreaterOrEqual}

-- what an operator joins: factors to a term, terms to a sum, or two sums that it compares
pub data Joins : Type 0 where
  factors : Joins
  terms : Joins
  sums : Joins

abbrev pub joins : Operator → Joins
joins Multiply = factors
joins Divide = factors
joins Remainder = factors
joins Add = terms
joins Subtract = terms
joins Equal = sums
joins NotEqual = sums
joins Less = sums
joins LessOrEqual = sums
joins Greater = sums
joins GreaterOrEqual = sums

mutual
  pub data IsFactor : Expression → List Symbol → List Symbol → Type 0 where
    a_number : {n : ℕ} {rest : List Symbol} → IsFactor (Expression.number n) (number n ∷ rest) rest
    a_name : {k : ℕ} {rest : List Symbol} → IsFactor (Expression.private k) (name k ∷ rest) rest
    me : {rest : List Symbol} → IsFactor Expression.me (keyword Me ∷ rest) rest
    nodes : {rest : List Symbol} → IsFactor Expression.nodes (keyword Nodes ∷ rest) rest
    parentheses : {e : Expression} {inside rest : List Symbol} →
        IsExpression e inside (sign CloseParenthesis ∷ rest) →
        IsFactor e (sign OpenParenthesis ∷ inside) rest

  pub data IsTerm : Expression → List Symbol → List Symbol → Type 0 where
    factor : {e : Expression} {all rest : List Symbol} → IsFactor e all rest → IsTerm e all rest
    product : {left right : Expression} {o : Operator} {all more rest : List Symbol} →
        IsTerm left all (operator o ∷ more) → joins o ≡ factors → IsFactor right more rest →
        IsTerm (Expression.binary left o right) all rest

  pub data IsSum : Expression → List Symbol → List Symbol → Type 0 where
    term : {e : Expression} {all rest : List Symbol} → IsTerm e all rest → IsSum e all rest
    sum : {left right : Expression} {o : Operator} {all more rest : List Symbol} →
        IsSum left all (operator o ∷ more) → joins o ≡ terms → IsTerm right more rest →
        IsSum (Expression.binary left o right) all rest

  pub data IsExpression : Expression → List Symbol → List Symbol → Type 0 where
    one_sum : {e : Expression} {all rest : List Symbol} → IsSum e all rest → IsExpression e all rest
    comparison : {left right : Expression} {o : Operator} {all more rest : List Symbol} →
        IsSum left all (operator o ∷ more) → joins o ≡ sums → IsSum right more rest →
        IsExpression (Expression.binary left o right) all rest

mutual
  pub data IsStatement : Statement → List Symbol → List Symbol → Type 0 where
    assign : {k : ℕ} {value : Expression} {more rest : List Symbol} →
        IsExpression value more (sign Semicolon ∷ rest) →
        IsStatement (Statement.assign k value) (name k ∷ sign Assign ∷ more) rest
    read : {k : ℕ} {word : Expression} {more rest : List Symbol} →
        IsExpression word more (sign CloseBracket ∷ sign Semicolon ∷ rest) →
        IsStatement (Statement.read k word) (name k ∷ sign Assign ∷ sign OpenBracket ∷ more) rest
    write : {word value : Expression} {more right rest : List Symbol} →
        IsExpression word more (sign CloseBracket ∷ sign Assign ∷ right) →
        IsExpression value right (sign Semicolon ∷ rest) →
        IsStatement (Statement.write word value) (sign OpenBracket ∷ more) rest
    acquire : {lock : Expression} {more rest : List Symbol} →
        IsExpression lock more (sign Semicolon ∷ rest) →
        IsStatement (Statement.acquire lock) (keyword Acquire ∷ more) rest
    release : {lock : Expression} {more rest : List Symbol} →
        IsExpression lock more (sign Semicolon ∷ rest) →
        IsStatement (Statement.release lock) (keyword Release ∷ more) rest
    barrier : {rest : List Symbol} →
        IsStatement Statement.barrier (keyword Barrier ∷ sign Semicolon ∷ rest) rest
    print : {value : Expression} {more rest : List Symbol} →
        IsExpression value more (sign Semicolon ∷ rest) →
        IsStatement (Statement.print value) (keyword Print ∷ more) rest
    if_alone : {condition : Expression} {then : Block} {more body rest : List Symbol} →
        IsExpression condition more body → IsBlock then body rest →
        IsStatement (Statement.if_else condition then Block.empty) (keyword If ∷ more) rest
    if_else : {condition : Expression} {then otherwise : Block} {more body second rest : List Symbol} →
        IsExpression condition more body → IsBlock then body (keyword Else ∷ second) → IsBlock otherwise second rest →
        IsStatement (Statement.if_else condition then otherwise) (keyword If ∷ more) rest
    while_do : {condition : Expression} {inside : Block} {more body rest : List Symbol} →
        IsExpression condition more body → IsBlock inside body rest →
        IsStatement (Statement.while_do condition inside) (keyword While ∷ more) rest

  pub data IsBlock : Block → List Symbol → List Symbol → Type 0 where
    braces : {inside : Block} {more rest : List Symbol} →
        AreStatements inside more (sign CloseBrace ∷ rest) →
        IsBlock inside (sign OpenBrace ∷ more) rest

  pub data AreStatements : Block → List Symbol → List Symbol → Type 0 where
    none : {rest : List Symbol} → AreStatements Block.empty rest rest
    one_more : {first : Statement} {others : Block} {all more rest : List Symbol} →
        IsStatement first all more → AreStatements others more rest →
        AreStatements (Block.next first others) all rest

-- the symbols of a whole program
pub data AreSymbolsOf : ProgramTree → List Symbol → Type 0 where
  program : {words locks : ℕ} {statements : Block} {more : List Symbol} →
      AreStatements statements more (finish ∷ []) →
      AreSymbolsOf
      (record { words = words; locks = locks; statements = statements })
      (keyword Words ∷ number words ∷ sign Semicolon ∷ keyword Locks ∷ number locks ∷ sign Semicolon ∷ more)

-- these tokens, up to the end of the text, are those of the program
abbrev pub IsProgram : ProgramTree → List Token → Type 0
IsProgram p tokens = AreSymbolsOf p (symbols tokens)
