-- The code's trees as the definitions see them.
use Rattle.std.specs.Prelude.{List, [], ◌∷◌, map}
use Rattle.lrc_named_tree.specs.declared.tree.Name as code_name
use Rattle.lrc_named_tree.specs.declared.tree.Place as code_place
use Rattle.lrc_named_tree.specs.declared.tree.Update as code_update
use Rattle.lrc_named_tree.specs.declared.tree.Update.TheVariants as updates
use Rattle.lrc_named_tree.specs.declared.tree.Expression as code_expression
use Rattle.lrc_named_tree.specs.declared.tree.Expression.{Number, Me, Nodes, Element', Call', Group', Not', Binary', And', Or'}
use Rattle.lrc_named_tree.specs.declared.tree.Expression.{Row_of-Expression, end_of-Expression, more_of-Expression}
use Rattle.lrc_named_tree.specs.declared.tree.Statement as code_statement
use Rattle.lrc_named_tree.specs.declared.tree.Statement.{Assign, Acquire, Release, With', Barrier, Print, Assert, If', While', For'}
use Rattle.lrc_named_tree.specs.declared.tree.Statement.{Row_of-Statement, end_of-Statement, more_of-Statement, Row_of-Arm, end_of-Arm, more_of-Arm}
use Rattle.lrc_named_tree.specs.declared.tree.Declaration as code_declaration
use Rattle.lrc_named_tree.specs.declared.tree.Declaration.TheVariants as declarations
use Rattle.lrc_named_tree.specs.declared.tree.NamedProgram as code_program
use Rattle.lrc_named_tree.specs.Tree.{Named, Expression, Expressions, Place, Update, Statement, Block, Arms, Declaration, NamedTree}

abbrev pub named_of : code_name.Name → Named
named_of n = record { at = n.at; bytes = n.bytes.now }

-- an expression of the code, and expressions one behind the other there
abbrev mutual
  pub expression_of : code_expression.Expression → Expression
  expression_of (Number at n) = Expression.number at n
  expression_of (Me at) = Expression.me at
  expression_of (Nodes at) = Expression.nodes at
  expression_of (Element' name p row last) = Expression.element (named_of name) (row_of row) last
  expression_of (Call' name p row close) = Expression.call (named_of name) (row_of row) close
  expression_of (Group' at p inside close) = Expression.group at (expression_of inside) close
  expression_of (Not' at p operand) = Expression.negation at (expression_of operand)
  expression_of (Binary' p left operator q right) = Expression.binary (expression_of left) operator (expression_of right)
  expression_of (And' p left q right) = Expression.both (expression_of left) (expression_of right)
  expression_of (Or' p left q right) = Expression.either (expression_of left) (expression_of right)

  pub row_of : {m : _} → Row_of-Expression m → Expressions
  row_of end_of-Expression = Expressions.none
  row_of (more_of-Expression first rest) = Expressions.more (expression_of first) (row_of rest)

abbrev pub expressions_of : List code_expression.Expression → Expressions
expressions_of [] = Expressions.none
expressions_of (first ∷ rest) = Expressions.more (expression_of first) (expressions_of rest)

abbrev pub place_of : code_place.Place → Place
place_of p = record { name = named_of p.name; indices = expressions_of p.indices.items }

abbrev pub update_of : code_update.Update → Update
update_of updates.Set = Update.set
update_of updates.Add = Update.add
update_of updates.Subtract = Update.subtract

-- a statement of the code, the statements of a block there, and each `else if` of an `if`
abbrev mutual
  pub statement_of : code_statement.Statement → Statement
  statement_of (Assign p update value) = Statement.assign (place_of p) (update_of update) (expression_of value)
  statement_of (Acquire at p) = Statement.acquire at (place_of p)
  statement_of (Release at p) = Statement.release at (place_of p)
  statement_of (With' at place p row close) = Statement.with_do at (place_of place) (block_row row) close
  statement_of (Barrier at) = Statement.barrier at
  statement_of (Print at values) = Statement.print at (expressions_of values.items)
  statement_of (Assert at condition) = Statement.assert at (expression_of condition)
  statement_of (If' at condition p row q arms r others) =
      Statement.if_else at (expression_of condition) (block_row row) (arm_row arms) (block_row others)
  statement_of (While' at condition p row) = Statement.while_do at (expression_of condition) (block_row row)
  statement_of (For' at name first end p row) = Statement.for_do at (named_of name) (expression_of first) (expression_of end) (block_row row)

  pub block_row : {m : _} → Row_of-Statement m → Block
  block_row end_of-Statement = Block.empty
  block_row (more_of-Statement first rest) = Block.next (statement_of first) (block_row rest)

  pub arm_row : {m : _} → Row_of-Arm m → Arms
  arm_row end_of-Arm = Arms.no_arm
  arm_row (more_of-Arm at condition p row rest) = Arms.arm at (expression_of condition) (block_row row) (arm_row rest)

abbrev pub block_of : List code_statement.Statement → Block
block_of [] = Block.empty
block_of (first ∷ rest) = Block.next (statement_of first) (block_of rest)

-- a declaration of the code
abbrev pub declaration_of : code_declaration.Declaration → Declaration
declaration_of (declarations.Nodes at n) = Declaration.node_count at n
declaration_of (declarations.Const at name value) = Declaration.constant at (named_of name) (expression_of value)
declaration_of (declarations.Shared at items) = Declaration.shared at (map place_of items.items)
declaration_of (declarations.Lock at items) = Declaration.lock at (map place_of items.items)
declaration_of (declarations.Function at name parameters body) =
    Declaration.function at (named_of name) (map named_of parameters.items) (expression_of body)

-- a named program of the code
abbrev pub program_of : code_program.NamedProgram → NamedTree
program_of p = record { declarations = map declaration_of p.declarations.items; statements = block_of p.statements.items }
