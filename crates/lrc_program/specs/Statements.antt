-- Expressions and statements without where they lie in memory.
use Rattle.std.specs.Prelude.{ℕ, List, [], ◌∷◌}
use Rattle.lrc_program.specs.declared.Operator.{Operator}
use Rattle.lrc_program.specs.declared.Expression as code_expression
use Rattle.lrc_program.specs.declared.Expression.{Number, Private, Me, Nodes, Binary'}
use Rattle.lrc_program.specs.declared.Statement as code_statement
use Rattle.lrc_program.specs.declared.Statement.{Assign, Read, Write, Acquire, Release, Barrier, Print, If', While'}
use Rattle.lrc_program.specs.declared.Statement.{Row_of-Statement, end_of-Statement, more_of-Statement}

-- an expression; a private name is its number
pub data Expression : Type 0 where
  number : ℕ → Expression
  private : ℕ → Expression
  me : Expression
  nodes : Expression
  binary : Expression → Operator → Expression → Expression

-- a statement, and a block: its statements in their order
mutual
  pub data Statement : Type 0 where
    assign : ℕ → Expression → Statement
    read : ℕ → Expression → Statement
    write : Expression → Expression → Statement
    acquire : Expression → Statement
    release : Expression → Statement
    barrier : Statement
    print : Expression → Statement
    if_else : Expression → Block → Block → Statement
    while_do : Expression → Block → Statement

  pub data Block : Type 0 where
    empty : Block
    next : Statement → Block → Block

-- an expression of the code
abbrev pub expression_of : code_expression.Expression → Expression
expression_of (Number n) = number n
expression_of (Private k) = private k
expression_of Me = me
expression_of Nodes = nodes
expression_of (Binary' p left operator q right) = binary (expression_of left) operator (expression_of right)

-- a statement of the code, and the statements of a block there
abbrev mutual
  pub statement_of : code_statement.Statement → Statement
  statement_of (Assign k value) = assign k (expression_of value)
  statement_of (Read k word) = read k (expression_of word)
  statement_of (Write word value) = write (expression_of word) (expression_of value)
  statement_of (Acquire lock) = acquire (expression_of lock)
  statement_of (Release lock) = release (expression_of lock)
  statement_of Barrier = barrier
  statement_of (Print value) = print (expression_of value)
  statement_of (If' condition p row q others) = if_else (expression_of condition) (row_of row) (row_of others)
  statement_of (While' condition p row) = while_do (expression_of condition) (row_of row)

  pub row_of : {m : _} → Row_of-Statement m → Block
  row_of end_of-Statement = empty
  row_of (more_of-Statement first rest) = next (statement_of first) (row_of rest)

-- statements of the code
abbrev pub block_of : List code_statement.Statement → Block
block_of [] = empty
block_of (first ∷ rest) = next (statement_of first) (block_of rest)
