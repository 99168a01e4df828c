-- Where statements stand in a program's text.
use Rattle.std.specs.Prelude.{◌≡◌, ℕ, List, [], ◌∷◌, ◌++◌, drop, length}
use Rattle.lrc_program.specs.declared.Statement.{Statement, Row_of-Statement, end_of-Statement, more_of-Statement}
use Rattle.lrc_program.specs.declared.Statement.TheVariants.{If', While'}
use Rattle.lrc_lines.specs.Tasks.{Task}

-- the statements of a statement's blocks, and those of a block, in the order of the text: each in front of those of its own blocks
abbrev mutual
  pub within : Statement → List Statement
  within (If' condition p first q second) = within_block first ++ within_block second
  within (While' condition p body) = within_block body
  within _ = []

  pub within_block : {m : _} → Row_of-Statement m → List Statement
  within_block end_of-Statement = []
  within_block (more_of-Statement first more) = first ∷ (within first ++ within_block more)

-- all statements of a text, in that order
abbrev pub in_order : List Statement → List Statement
in_order [] = []
in_order (first ∷ more) = first ∷ (within first ++ in_order more)

-- the statement stands among these, with those of its blocks behind it, and its lines are those from its own place on
pub record StandsAmong (all : List Statement) (lines : List ℕ) (task : Task) : Type 0 where
  pub before : List Statement
  pub after : List Statement
  pub place : all ≡ before ++ (task.statement ∷ (within task.statement ++ after))
  pub lines_from : task.lines ≡ drop (length before) lines
