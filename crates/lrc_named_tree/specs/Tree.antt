-- Trees without where they lie in memory. A token is its index among the tokens of the text.
use Rattle.std.specs.Prelude.{ℕ, List}
use Rattle.lrc_program.specs.declared.Operator.{Operator}

-- a name: which token it is, and its bytes
pub record Named : Type 0 where
  pub at : ℕ
  pub bytes : List ℕ

-- an expression, and expressions one behind the other
mutual
  pub data Expression : Type 0 where
    number : ℕ → ℕ → Expression
    me : ℕ → Expression
    nodes : ℕ → Expression
    element : Named → Expressions → ℕ → Expression
    call : Named → Expressions → ℕ → Expression
    group : ℕ → Expression → ℕ → Expression
    negation : ℕ → Expression → Expression
    binary : Expression → Operator → Expression → Expression
    both : Expression → Expression → Expression
    either : Expression → Expression → Expression

  pub data Expressions : Type 0 where
    none : Expressions
    more : Expression → Expressions → Expressions

-- a name and its indices, or its sizes
pub record Place : Type 0 where
  pub name : Named
  pub indices : Expressions

pub data Update : Type 0 where
  set : Update
  add : Update
  subtract : Update

-- a statement, a block, and each `else if` of an `if`
mutual
  pub data Statement : Type 0 where
    assign : Place → Update → Expression → Statement
    acquire : ℕ → Place → Statement
    release : ℕ → Place → Statement
    with_do : ℕ → Place → Block → ℕ → Statement
    barrier : ℕ → Statement
    print : ℕ → Expressions → Statement
    assert : ℕ → Expression → Statement
    if_else : ℕ → Expression → Block → Arms → Block → Statement
    while_do : ℕ → Expression → Block → Statement
    for_do : ℕ → Named → Expression → Expression → Block → Statement

  pub data Block : Type 0 where
    empty : Block
    next : Statement → Block → Block

  pub data Arms : Type 0 where
    no_arm : Arms
    arm : ℕ → Expression → Block → Arms → Arms

-- a declaration
pub data Declaration : Type 0 where
  node_count : ℕ → ℕ → Declaration
  constant : ℕ → Named → Expression → Declaration
  shared : ℕ → List Place → Declaration
  lock : ℕ → List Place → Declaration
  function : ℕ → Named → List Named → Expression → Declaration

-- a named program: its declarations and its statements
pub record NamedTree : Type 0 where
  pub declarations : List Declaration
  pub statements : Block
