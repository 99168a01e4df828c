-- Warnings, and what they are of, without where it lies in memory.
use Rattle.std.specs.Prelude.{ℕ, Option, Some, None, List, [], ◌∷◌}
use Rattle.lrc_program.specs.Statements.{Expression, Statement, expression_of, statement_of}
use Rattle.lrc_lint_warned.specs.declared.found.Kind.{Kind}
use Rattle.lrc_lint_warned.specs.declared.found.Found.{Found}
use Rattle.lrc_lint_warned.specs.declared.found.StatementAt as code_statement
use Rattle.lrc_lint_warned.specs.declared.found.NodeAt as code_node

-- a statement, and the place of its first token among the tokens of the text
pub record StatementAt : Type 0 where
  pub at : ℕ
  pub statement : Statement

-- a part of an expression, and the place of its token
pub record NodeAt : Type 0 where
  pub at : ℕ
  pub node : Expression

abbrev pub statement_seen : code_statement.StatementAt → StatementAt
statement_seen s = record { at = s.at; statement = statement_of s.statement.now }

abbrev pub node_seen : code_node.NodeAt → NodeAt
node_seen n = record { at = n.at; node = expression_of n.node.now }

-- a warning at this place, if there is one
abbrev pub found_at : ℕ → Option Kind → List Found
found_at at None = []
found_at at (Some kind) = record { at = at; kind = kind } ∷ []

-- a warning where there is a place of it
abbrev pub found_where : Option ℕ → Kind → List Found
found_where None kind = []
found_where (Some at) kind = record { at = at; kind = kind } ∷ []
