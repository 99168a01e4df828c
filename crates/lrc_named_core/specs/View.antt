-- The code's trees as the definitions see them.
use Rattle.std.specs.Prelude.{List, [], ◌∷◌}
use Rattle.lrc_named_core.specs.declared.tree.Trap as code_trap
use Rattle.lrc_named_core.specs.declared.tree.Trap.TheVariants.{Plain, Assertion, Index}
use Rattle.lrc_named_core.specs.declared.tree.Origin as code_origin
use Rattle.lrc_named_core.specs.declared.tree.Expression as code_expression
use Rattle.lrc_named_core.specs.declared.tree.Statement as code_statement
use Rattle.lrc_named_core.specs.declared.tree.Statement.{Assign, Read, Write, Acquire, Release, Barrier, Print, If', While'}
use Rattle.lrc_named_core.specs.declared.tree.Statement.{Row_of-Statement, end_of-Statement, more_of-Statement}
use Rattle.lrc_named_core.specs.Shape.{tree_of}
pub use Rattle.lrc_named_core.specs.Shape.{private_of}
use Rattle.lrc_named_core.specs.Tree as tree
use Rattle.lrc_named_core.specs.Tree.{plain, assertion, index, Origin, Block, empty, next}

abbrev pub trap_of : code_trap.Trap → tree.Trap
trap_of Plain = plain
trap_of Assertion = assertion
trap_of (Index name) = index name.now

abbrev pub origin_of : code_origin.Origin → Origin
origin_of o = record { statement = o.statement; line = o.line; trap = trap_of o.trap }

-- an expression of the code
abbrev pub expression_of : code_expression.Expression → tree.Expression
expression_of e = tree_of e.tree

-- a statement of the code, and the statements of a block there
abbrev mutual
  pub statement_of : code_statement.Statement → tree.Statement
  statement_of (Assign origin name value) = tree.assign (origin_of origin) (private_of name) (expression_of value)
  statement_of (Read origin name word) = tree.read (origin_of origin) (private_of name) (expression_of word)
  statement_of (Write origin word value) = tree.write (origin_of origin) (expression_of word) (expression_of value)
  statement_of (Acquire origin lock) = tree.acquire (origin_of origin) (expression_of lock)
  statement_of (Release origin lock) = tree.release (origin_of origin) (expression_of lock)
  statement_of (Barrier origin) = tree.barrier (origin_of origin)
  statement_of (Print origin value) = tree.print (origin_of origin) (expression_of value)
  statement_of (If' origin condition p row q others) = tree.if_else (origin_of origin) (expression_of condition) (row_of row) (row_of others)
  statement_of (While' origin condition p row) = tree.while_do (origin_of origin) (expression_of condition) (row_of row)

  pub row_of : {m : _} → Row_of-Statement m → Block
  row_of end_of-Statement = empty
  row_of (more_of-Statement first rest) = next (statement_of first) (row_of rest)

abbrev pub block_of : List code_statement.Statement → Block
block_of [] = empty
block_of (first ∷ rest) = next (statement_of first) (block_of rest)
