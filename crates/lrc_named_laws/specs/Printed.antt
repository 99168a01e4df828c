-- The program that the core of a named program is.
use Rattle.std.specs.Prelude.{ℕ, List, [], Option}
use Rattle.lrc_program.specs.Tree.{ProgramTree}
use Rattle.lrc_named_core.specs.Tree.{Block}
use Rattle.lrc_named_acts_laws.specs.Coded.{Numbers, block_coded}
use Rattle.lrc_named_text_laws.specs.Named.{numbers_among, with_statements}
use Rattle.lrc_named.specs.Named.{IsCoreText}

-- the numbers of the private names of a core: how many others come before one in its text
abbrev pub numbers_in : Block → Numbers
numbers_in statements = numbers_among (with_statements [] statements)

-- the core of which this text was printed, as a program of the language
abbrev pub program_of : {text core : List ℕ} {nodes : Option ℕ} → IsCoreText text nodes core → ProgramTree
program_of printed = record {
  words = printed.core_is.words;
  locks = printed.core_is.locks;
  statements = block_coded (numbers_in printed.core_is.statements) printed.core_is.statements;
}
