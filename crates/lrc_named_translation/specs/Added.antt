-- Statements that have come behind others.
use Rattle.std.specs.Prelude.{◌≡◌, ◌++◌, List}
use Rattle.lrc_named_core.specs.declared.tree.Statement.{Statement}
use Rattle.lrc_named_core.specs.Tree.{Block}
use Rattle.lrc_named_core.specs.View.{block_of}

-- statements have come behind the old ones, and of these so much is so
pub record IsAdded (IsSo : Block → Type 0) (old new : List Statement) : Type 0 where
  pub more : List Statement
  pub grown : new ≡ old ++ more
  pub made : IsSo (block_of more)
