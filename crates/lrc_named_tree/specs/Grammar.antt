-- The grammar. `IsTerm e tokens rest` says that the tokens are those of the term e, and then the rest; and so for the
-- others. Each case is one rule. What a rule repeats is a list of its own: `AreFactors left e tokens rest` says that the
-- tokens are operators with a factor behind each, and then the rest, and that e is left with all of these joined to it.
use Rattle.std.specs.Prelude.{ℕ, ◌+◌, List, [], ◌∷◌}
use Rattle.lrc_program.specs.declared.Operator.{Operator}
use Rattle.lrc_program.specs.declared.Operator.TheVariants.{Add, Subtract, Multiply, Divide, Remainder, Equal, NotEqual}
use Rattle.lrc_program.specs.declared.Operator.TheVariants.{Less, LessOrEqual, Greater, GreaterOrEqual}
use Rattle.lrc_named_tokens.specs.declared.token.Keyword.TheVariants as keywords
use Rattle.lrc_named_tokens.specs.declared.token.Sign.{Sign}
use Rattle.lrc_named_tokens.specs.declared.token.Sign.TheVariants as signs
use Rattle.lrc_named_tokens.specs.Token.{Token, number, name, keyword, sign, finish}
use Rattle.lrc_named_tree.specs.Tree.{Named, Expression, Expressions, Place, Update, Statement, Block, Arms, Declaration, NamedTree}

-- a token of a text, and how many stand before it
pub record Numbered : Type 0 where
  pub index : ℕ
  pub token : Token

abbrev pub on : ℕ → Token → Numbered
on index token = record { index = index; token = token }

-- tokens, of which the first has so many before it
abbrev pub numbered : ℕ → List Token → List Numbered
numbered count [] = []
numbered count (token ∷ tokens) = on count token ∷ numbered (count + 1) tokens

-- a name that is spelled so
abbrev pub named : ℕ → List ℕ → Named
named at bytes = record { at = at; bytes = bytes }

-- ---- operators

-- a sign that joins two factors to a term
pub data JoinsFactors : Sign → Operator → Type 0 where
  times : JoinsFactors signs.Star Multiply
  over : JoinsFactors signs.Slash Divide
  modulo : JoinsFactors signs.Percent Remainder

-- a sign that joins two terms to a sum
pub data JoinsTerms : Sign → Operator → Type 0 where
  plus : JoinsTerms signs.Plus Add
  minus : JoinsTerms signs.Minus Subtract

-- a sign that compares two sums
pub data Compares : Sign → Operator → Type 0 where
  equal : Compares signs.Equal Equal
  not_equal : Compares signs.NotEqual NotEqual
  less : Compares signs.Less Less
  less_or_equal : Compares signs.LessOrEqual LessOrEqual
  greater : Compares signs.Greater Greater
  greater_or_equal : Compares signs.GreaterOrEqual GreaterOrEqual

-- ---- ends

-- a token that ends the expression in front of it: one of `;`, `,`, `)`, `]`, `{` and `..`
abbrev pub IsEnding : Token → Type 0
IsEnding (sign signs.Semicolon) = Unit {0}
IsEnding (sign signs.Comma) = Unit {0}
IsEnding (sign signs.CloseParenthesis) = Unit {0}
IsEnding (sign signs.CloseBracket) = Unit {0}
IsEnding (sign signs.OpenBrace) = Unit {0}
IsEnding (sign signs.Range) = Unit {0}
IsEnding _ = ⊥

-- ---- expressions

mutual
  pub data IsFactor : Expression → List Numbered → List Numbered → Type 0 where
    a_number : {at n : ℕ} {rest : List Numbered} → IsFactor (Expression.number at n) (on at (number n) ∷ rest) rest
    me : {at : ℕ} {rest : List Numbered} → IsFactor (Expression.me at) (on at (keyword keywords.Me) ∷ rest) rest
    nodes : {at : ℕ} {rest : List Numbered} → IsFactor (Expression.nodes at) (on at (keyword keywords.Nodes) ∷ rest) rest
    an_element : {at last : ℕ} {bytes : List ℕ} {indices : Expressions} {more rest : List Numbered} →
        AreIndices indices at last more rest →
        IsFactor (Expression.element (named at bytes) indices last) (on at (name bytes) ∷ more) rest
    a_call : {at opens closes : ℕ} {bytes : List ℕ} {arguments : Expressions} {more rest : List Numbered} →
        AreArguments arguments closes more rest →
        IsFactor (Expression.call (named at bytes) arguments closes) (on at (name bytes) ∷ on opens (sign signs.OpenParenthesis) ∷ more) rest
    parentheses : {opens closes : ℕ} {e : Expression} {inside rest : List Numbered} →
        IsExpression e inside (on closes (sign signs.CloseParenthesis) ∷ rest) →
        IsFactor (Expression.group opens e closes) (on opens (sign signs.OpenParenthesis) ∷ inside) rest

  -- indices, each in brackets of its own: with the token in front of them, and which token comes last
  pub data AreIndices : Expressions → ℕ → ℕ → List Numbered → List Numbered → Type 0 where
    no_index : {at : ℕ} {rest : List Numbered} → AreIndices Expressions.none at at rest rest
    one_index : {at opens closes last : ℕ} {e : Expression} {others : Expressions} {inside behind rest : List Numbered} →
        IsExpression e inside (on closes (sign signs.CloseBracket) ∷ behind) → AreIndices others closes last behind rest →
        AreIndices (Expressions.more e others) at last (on opens (sign signs.OpenBracket) ∷ inside) rest

  -- arguments, and which token the `)` behind them is
  pub data AreArguments : Expressions → ℕ → List Numbered → List Numbered → Type 0 where
    no_argument : {closes : ℕ} {rest : List Numbered} →
        AreArguments Expressions.none closes (on closes (sign signs.CloseParenthesis) ∷ rest) rest
    some_arguments : {closes : ℕ} {arguments : Expressions} {all rest : List Numbered} →
        AreSeparate arguments all (on closes (sign signs.CloseParenthesis) ∷ rest) → AreArguments arguments closes all rest

  -- one expression or more, with a `,` between each two
  pub data AreSeparate : Expressions → List Numbered → List Numbered → Type 0 where
    the_last : {e : Expression} {all rest : List Numbered} → IsExpression e all rest → AreSeparate (Expressions.more e Expressions.none) all rest
    one_of : {comma : ℕ} {e : Expression} {others : Expressions} {all behind rest : List Numbered} →
        IsExpression e all (on comma (sign signs.Comma) ∷ behind) → AreSeparate others behind rest →
        AreSeparate (Expressions.more e others) all rest

  pub data IsTerm : Expression → List Numbered → List Numbered → Type 0 where
    term : {left e : Expression} {all behind rest : List Numbered} → IsFactor left all behind → AreFactors left e behind rest → IsTerm e all rest

  pub data AreFactors : Expression → Expression → List Numbered → List Numbered → Type 0 where
    no_factor : {e : Expression} {rest : List Numbered} → AreFactors e e rest rest
    one_factor : {left right e : Expression} {at : ℕ} {mark : Sign} {o : Operator} {more behind rest : List Numbered} →
        JoinsFactors mark o → IsFactor right more behind → AreFactors (Expression.binary left o right) e behind rest →
        AreFactors left e (on at (sign mark) ∷ more) rest

  pub data IsSum : Expression → List Numbered → List Numbered → Type 0 where
    sum : {left e : Expression} {all behind rest : List Numbered} → IsTerm left all behind → AreTerms left e behind rest → IsSum e all rest

  pub data AreTerms : Expression → Expression → List Numbered → List Numbered → Type 0 where
    no_term : {e : Expression} {rest : List Numbered} → AreTerms e e rest rest
    one_term : {left right e : Expression} {at : ℕ} {mark : Sign} {o : Operator} {more behind rest : List Numbered} →
        JoinsTerms mark o → IsTerm right more behind → AreTerms (Expression.binary left o right) e behind rest →
        AreTerms left e (on at (sign mark) ∷ more) rest

  pub data IsTest : Expression → List Numbered → List Numbered → Type 0 where
    negation : {at : ℕ} {e : Expression} {more rest : List Numbered} →
        IsTest e more rest → IsTest (Expression.negation at e) (on at (keyword keywords.Not) ∷ more) rest
    one_sum : {e : Expression} {all rest : List Numbered} → IsSum e all rest → IsTest e all rest
    comparison : {left right : Expression} {at : ℕ} {mark : Sign} {o : Operator} {all more rest : List Numbered} →
        IsSum left all (on at (sign mark) ∷ more) → Compares mark o → IsSum right more rest →
        IsTest (Expression.binary left o right) all rest

  pub data IsBoth : Expression → List Numbered → List Numbered → Type 0 where
    both : {left e : Expression} {all behind rest : List Numbered} → IsTest left all behind → AreTests left e behind rest → IsBoth e all rest

  pub data AreTests : Expression → Expression → List Numbered → List Numbered → Type 0 where
    no_test : {e : Expression} {rest : List Numbered} → AreTests e e rest rest
    one_test : {left right e : Expression} {at : ℕ} {more behind rest : List Numbered} →
        IsTest right more behind → AreTests (Expression.both left right) e behind rest →
        AreTests left e (on at (keyword keywords.And) ∷ more) rest

  pub data IsExpression : Expression → List Numbered → List Numbered → Type 0 where
    expression : {left e : Expression} {all behind rest : List Numbered} → IsBoth left all behind → AreBoths left e behind rest → IsExpression e all rest

  pub data AreBoths : Expression → Expression → List Numbered → List Numbered → Type 0 where
    no_both : {e : Expression} {rest : List Numbered} → AreBoths e e rest rest
    one_both : {left right e : Expression} {at : ℕ} {more behind rest : List Numbered} →
        IsBoth right more behind → AreBoths (Expression.either left right) e behind rest →
        AreBoths left e (on at (keyword keywords.Or) ∷ more) rest

-- what stands behind an expression, wherever one may stand
abbrev pub EndsExpression : List Numbered → Type 0
EndsExpression [] = Unit {0}
EndsExpression (first ∷ more) = IsEnding first.token

-- ---- statements

-- a name and its indices, or its sizes
pub data IsPlace : Place → List Numbered → List Numbered → Type 0 where
  place : {at last : ℕ} {bytes : List ℕ} {indices : Expressions} {more rest : List Numbered} →
      AreIndices indices at last more rest → IsPlace (record { name = named at bytes; indices = indices }) (on at (name bytes) ∷ more) rest

-- a sign that sets a place
pub data Updates : Sign → Update → Type 0 where
  sets : Updates signs.Assign Update.set
  adds : Updates signs.AddAssign Update.add
  subtracts : Updates signs.SubtractAssign Update.subtract

mutual
  pub data IsStatement : Statement → List Numbered → List Numbered → Type 0 where
    assign : {p : Place} {update : Update} {value : Expression} {mark : Sign} {at ends : ℕ} {all more rest : List Numbered} →
        IsPlace p all (on at (sign mark) ∷ more) → Updates mark update → IsExpression value more (on ends (sign signs.Semicolon) ∷ rest) →
        IsStatement (Statement.assign p update value) all rest
    acquire : {at ends : ℕ} {p : Place} {more rest : List Numbered} →
        IsPlace p more (on ends (sign signs.Semicolon) ∷ rest) →
        IsStatement (Statement.acquire at p) (on at (keyword keywords.Acquire) ∷ more) rest
    release : {at ends : ℕ} {p : Place} {more rest : List Numbered} →
        IsPlace p more (on ends (sign signs.Semicolon) ∷ rest) →
        IsStatement (Statement.release at p) (on at (keyword keywords.Release) ∷ more) rest
    with_do : {at closes : ℕ} {p : Place} {inside : Block} {more body rest : List Numbered} →
        IsPlace p more body → IsBlock inside closes body rest →
        IsStatement (Statement.with_do at p inside closes) (on at (keyword keywords.With) ∷ more) rest
    barrier : {at ends : ℕ} {rest : List Numbered} →
        IsStatement (Statement.barrier at) (on at (keyword keywords.Barrier) ∷ on ends (sign signs.Semicolon) ∷ rest) rest
    print : {at ends : ℕ} {values : Expressions} {more rest : List Numbered} →
        AreSeparate values more (on ends (sign signs.Semicolon) ∷ rest) →
        IsStatement (Statement.print at values) (on at (keyword keywords.Print) ∷ more) rest
    assert : {at ends : ℕ} {condition : Expression} {more rest : List Numbered} →
        IsExpression condition more (on ends (sign signs.Semicolon) ∷ rest) →
        IsStatement (Statement.assert at condition) (on at (keyword keywords.Assert) ∷ more) rest
    if_else : {at closes : ℕ} {condition : Expression} {then otherwise : Block} {others : Arms} {more body behind rest : List Numbered} →
        IsExpression condition more body → IsBlock then closes body behind → AreElses others otherwise behind rest →
        IsStatement (Statement.if_else at condition then others otherwise) (on at (keyword keywords.If) ∷ more) rest
    while_do : {at closes : ℕ} {condition : Expression} {inside : Block} {more body rest : List Numbered} →
        IsExpression condition more body → IsBlock inside closes body rest →
        IsStatement (Statement.while_do at condition inside) (on at (keyword keywords.While) ∷ more) rest
    for_do : {at own within range closes : ℕ} {bytes : List ℕ} {first end : Expression} {inside : Block} {more behind body rest : List Numbered} →
        IsExpression first more (on range (sign signs.Range) ∷ behind) → IsExpression end behind body → IsBlock inside closes body rest →
        IsStatement (Statement.for_do at (named own bytes) first end inside)
        (on at (keyword keywords.For) ∷ on own (name bytes) ∷ on within (keyword keywords.In) ∷ more) rest

  -- each `else if`, and then the block of the last `else`, which is empty where none stands
  pub data AreElses : Arms → Block → List Numbered → List Numbered → Type 0 where
    no_else : {rest : List Numbered} → AreElses Arms.no_arm Block.empty rest rest
    last_else : {other closes : ℕ} {otherwise : Block} {body rest : List Numbered} →
        IsBlock otherwise closes body rest → AreElses Arms.no_arm otherwise (on other (keyword keywords.Else) ∷ body) rest
    else_if : {other at closes : ℕ} {condition : Expression} {then otherwise : Block} {others : Arms} {more body behind rest : List Numbered} →
        IsExpression condition more body → IsBlock then closes body behind → AreElses others otherwise behind rest →
        AreElses (Arms.arm at condition then others) otherwise
        (on other (keyword keywords.Else) ∷ on at (keyword keywords.If) ∷ more) rest

  -- with which token the `}` is
  pub data IsBlock : Block → ℕ → List Numbered → List Numbered → Type 0 where
    braces : {opens closes : ℕ} {inside : Block} {more rest : List Numbered} →
        AreStatements inside more (on closes (sign signs.CloseBrace) ∷ rest) →
        IsBlock inside closes (on opens (sign signs.OpenBrace) ∷ more) rest

  pub data AreStatements : Block → List Numbered → List Numbered → Type 0 where
    no_statement : {rest : List Numbered} → AreStatements Block.empty rest rest
    one_statement : {first : Statement} {others : Block} {all more rest : List Numbered} →
        IsStatement first all more → AreStatements others more rest →
        AreStatements (Block.next first others) all rest

-- ---- declarations

-- one item or more, with a `,` between each two
pub data AreItems : List Place → List Numbered → List Numbered → Type 0 where
  last_item : {p : Place} {all rest : List Numbered} → IsPlace p all rest → AreItems (p ∷ []) all rest
  one_item : {comma : ℕ} {p : Place} {others : List Place} {all behind rest : List Numbered} →
      IsPlace p all (on comma (sign signs.Comma) ∷ behind) → AreItems others behind rest → AreItems (p ∷ others) all rest

-- one name or more, with a `,` between each two
pub data AreNames : List Named → List Numbered → List Numbered → Type 0 where
  last_name : {at : ℕ} {bytes : List ℕ} {rest : List Numbered} → AreNames (named at bytes ∷ []) (on at (name bytes) ∷ rest) rest
  one_name : {at comma : ℕ} {bytes : List ℕ} {others : List Named} {behind rest : List Numbered} →
      AreNames others behind rest → AreNames (named at bytes ∷ others) (on at (name bytes) ∷ on comma (sign signs.Comma) ∷ behind) rest

-- parameters, up to the `)` behind them
pub data AreParameters : List Named → List Numbered → List Numbered → Type 0 where
  no_parameter : {closes : ℕ} {rest : List Numbered} → AreParameters [] (on closes (sign signs.CloseParenthesis) ∷ rest) rest
  some_parameters : {closes : ℕ} {names : List Named} {all rest : List Numbered} →
      AreNames names all (on closes (sign signs.CloseParenthesis) ∷ rest) → AreParameters names all rest

pub data IsDeclaration : Declaration → List Numbered → List Numbered → Type 0 where
  node_count : {at own ends n : ℕ} {rest : List Numbered} →
      IsDeclaration (Declaration.node_count at n) (on at (keyword keywords.Nodes) ∷ on own (number n) ∷ on ends (sign signs.Semicolon) ∷ rest) rest
  constant : {at own sets ends : ℕ} {bytes : List ℕ} {value : Expression} {more rest : List Numbered} →
      IsExpression value more (on ends (sign signs.Semicolon) ∷ rest) →
      IsDeclaration (Declaration.constant at (named own bytes) value)
      (on at (keyword keywords.Const) ∷ on own (name bytes) ∷ on sets (sign signs.Assign) ∷ more) rest
  shared : {at ends : ℕ} {items : List Place} {more rest : List Numbered} →
      AreItems items more (on ends (sign signs.Semicolon) ∷ rest) →
      IsDeclaration (Declaration.shared at items) (on at (keyword keywords.Shared) ∷ more) rest
  lock : {at ends : ℕ} {items : List Place} {more rest : List Numbered} →
      AreItems items more (on ends (sign signs.Semicolon) ∷ rest) →
      IsDeclaration (Declaration.lock at items) (on at (keyword keywords.Lock) ∷ more) rest
  function : {at own opens sets ends : ℕ} {bytes : List ℕ} {parameters : List Named} {body : Expression} {inside more rest : List Numbered} →
      AreParameters parameters inside (on sets (sign signs.Assign) ∷ more) → IsExpression body more (on ends (sign signs.Semicolon) ∷ rest) →
      IsDeclaration (Declaration.function at (named own bytes) parameters body)
      (on at (keyword keywords.Fn) ∷ on own (name bytes) ∷ on opens (sign signs.OpenParenthesis) ∷ inside) rest

-- one declaration or more
pub data AreDeclarations : List Declaration → List Numbered → List Numbered → Type 0 where
  last_declaration : {first : Declaration} {all rest : List Numbered} → IsDeclaration first all rest → AreDeclarations (first ∷ []) all rest
  one_declaration : {first : Declaration} {others : List Declaration} {all behind rest : List Numbered} →
      IsDeclaration first all behind → AreDeclarations others behind rest → AreDeclarations (first ∷ others) all rest

-- the tokens of a whole named program
pub data AreTokensOf : NamedTree → List Numbered → Type 0 where
  program : {declarations : List Declaration} {statements : Block} {last : ℕ} {all more : List Numbered} →
      AreDeclarations declarations all more → AreStatements statements more (on last finish ∷ []) →
      AreTokensOf (record { declarations = declarations; statements = statements }) all

-- these tokens, up to the end of the text, are those of the named program
abbrev pub IsNamedProgram : NamedTree → List Token → Type 0
IsNamedProgram p tokens = AreTokensOf p (numbered 0 tokens)
