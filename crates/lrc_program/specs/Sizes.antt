-- How large a tree is: the private names that it takes, how deep its blocks lie in one another, and its operators.
use Rattle.std.specs.Prelude.{ℕ, ◌+◌, max}
use Rattle.lrc_program.specs.Statements.{Expression, number, private, me, nodes, binary, Statement, assign, read, write}
use Rattle.lrc_program.specs.Statements.{acquire, release, barrier, print, if_else, while_do, Block, empty, next}

-- how many private names an expression takes, counted up to the largest number of one in it
abbrev pub names_in_expression : Expression → ℕ
names_in_expression (number n) = 0
names_in_expression (private k) = k + 1
names_in_expression me = 0
names_in_expression nodes = 0
names_in_expression (binary left o right) = max (names_in_expression left) (names_in_expression right)

-- how many operators an expression has; it nests no deeper
abbrev pub operators_in : Expression → ℕ
operators_in (binary left o right) = operators_in left + 1 + operators_in right
operators_in _ = 0

-- how many private names a statement takes, and a block
abbrev mutual
  pub names_in_statement : Statement → ℕ
  names_in_statement (assign k value) = max (k + 1) (names_in_expression value)
  names_in_statement (read k word) = max (k + 1) (names_in_expression word)
  names_in_statement (write word value) = max (names_in_expression word) (names_in_expression value)
  names_in_statement (acquire lock) = names_in_expression lock
  names_in_statement (release lock) = names_in_expression lock
  names_in_statement barrier = 0
  names_in_statement (print value) = names_in_expression value
  names_in_statement (if_else condition then otherwise) = max (names_in_expression condition) (max (names_in then) (names_in otherwise))
  names_in_statement (while_do condition inside) = max (names_in_expression condition) (names_in inside)

  pub names_in : Block → ℕ
  names_in empty = 0
  names_in (next first others) = max (names_in_statement first) (names_in others)

-- how many blocks lie in one another in a statement, and how many in a block, itself not counted
abbrev mutual
  pub depth_of_statement : Statement → ℕ
  depth_of_statement (if_else condition then otherwise) = max (depth_of then) (depth_of otherwise) + 1
  depth_of_statement (while_do condition inside) = depth_of inside + 1
  depth_of_statement _ = 0

  pub depth_of : Block → ℕ
  depth_of empty = 0
  depth_of (next first others) = max (depth_of_statement first) (depth_of others)

-- the most operators of an expression in a statement, and in a block
abbrev mutual
  pub operators_in_statement : Statement → ℕ
  operators_in_statement (assign k value) = operators_in value
  operators_in_statement (read k word) = operators_in word
  operators_in_statement (write word value) = max (operators_in word) (operators_in value)
  operators_in_statement (acquire lock) = operators_in lock
  operators_in_statement (release lock) = operators_in lock
  operators_in_statement barrier = 0
  operators_in_statement (print value) = operators_in value
  operators_in_statement (if_else condition then otherwise) = max (operators_in condition) (max (most_operators then) (most_operators otherwise))
  operators_in_statement (while_do condition inside) = max (operators_in condition) (most_operators inside)

  pub most_operators : Block → ℕ
  most_operators empty = 0
  most_operators (next first others) = max (operators_in_statement first) (most_operators others)
