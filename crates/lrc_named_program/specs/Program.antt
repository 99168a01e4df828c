-- The core of a whole named program.
use Rattle.std.specs.Prelude.{◌≡◌, ℕ, List}
use Rattle.lrc_named_tree.specs.Tree.{NamedTree}
use Rattle.lrc_named_names.specs.Names.{Declared}
use Rattle.lrc_named_constants.specs.Layout.{core_words, locks_in}
use Rattle.lrc_named_core.specs.Tree.{Block}
use Rattle.lrc_named_statements.specs.Statements.{AreCores}

-- a program in whose statements names mean this has a core with so many words and locks, and these statements
pub record IsCoreOf (declared : List Declared) (tree : NamedTree) (words locks : ℕ) (statements : Block) : Type 0 where
  pub words_are : words ≡ core_words declared
  pub locks_are : locks ≡ locks_in declared
  pub translated : AreCores declared 0 tree.statements statements
