-- Trees without where they lie in memory.
use Rattle.std.specs.Prelude.{ℕ}
use Rattle.lrc_program.specs.declared.Program as code_program
pub use Rattle.lrc_program.specs.Statements.{Expression, number, private, me, nodes, binary, Statement, assign, read, write, acquire, release, barrier}
pub use Rattle.lrc_program.specs.Statements.{print, if_else, while_do, Block, empty, next, expression_of, statement_of, row_of, block_of}

-- a program
pub record ProgramTree : Type 0 where
  pub words : ℕ
  pub locks : ℕ
  pub statements : Block

-- a program of the code
abbrev pub program_of : code_program.Program → ProgramTree
program_of p = record { words = p.words; locks = p.locks; statements = block_of p.statements.items }
