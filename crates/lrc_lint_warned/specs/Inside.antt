-- What stands in expressions and statements, in the order of the text.
use Rattle.std.specs.Prelude.{List, [], ◌∷◌, ◌++◌}
use Rattle.std.specs.List.{flat_map}
use Rattle.lrc_program.specs.Statements.{Expression, number, private, me, nodes, binary, Statement, assign, read, write, acquire, release, barrier}
use Rattle.lrc_program.specs.Statements.{print, if_else, while_do, Block, empty, next}

-- the parts of an expression, in the order of their tokens: of one that joins two operands this is the sign between them
abbrev pub nodes_in : Expression → List Expression
nodes_in (binary left o right) = nodes_in left ++ binary left o right ∷ nodes_in right
nodes_in (number n) = number n ∷ []
nodes_in (private k) = private k ∷ []
nodes_in me = me ∷ []
nodes_in nodes = nodes ∷ []

-- the statements between the braces of a statement, at any depth, and those of a block
abbrev mutual
  pub within : Statement → List Statement
  within (if_else condition then otherwise) = statements_in then ++ statements_in otherwise
  within (while_do condition inside) = statements_in inside
  within _ = []

  pub statements_in : Block → List Statement
  statements_in empty = []
  statements_in (next first others) = first ∷ (within first ++ statements_in others)

-- the expressions of a statement; those of its blocks are not its own
abbrev pub expressions_of : Statement → List Expression
expressions_of (assign k value) = value ∷ []
expressions_of (read k word) = word ∷ []
expressions_of (write word value) = word ∷ value ∷ []
expressions_of (acquire lock) = lock ∷ []
expressions_of (release lock) = lock ∷ []
expressions_of barrier = []
expressions_of (print value) = value ∷ []
expressions_of (if_else condition then otherwise) = condition ∷ []
expressions_of (while_do condition inside) = condition ∷ []

-- the parts of a statement's expressions
abbrev pub nodes_of : Statement → List Expression
nodes_of s = flat_map nodes_in (expressions_of s)
