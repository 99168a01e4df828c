-- What undoes an acquire, or a release, inside each statement.
use Rattle.std.specs.Prelude.{◌≡◌, ℕ, false, List, ◌∷◌, ◌++◌, drop, map}
use Rattle.std.specs.List.{list_any}
use Rattle.lrc_program.specs.Statements.{Statement, if_else, while_do, Block, empty}
use Rattle.lrc_lint_warned.specs.declared.held.Side.{Side}
use Rattle.lrc_lint_warned.specs.declared.undone.Undone.{Undone}
use Rattle.lrc_lint_warned.specs.Held.{undoes}
use Rattle.lrc_lint_warned.specs.Inside.{statements_in, within}

-- the first block of a statement
abbrev pub first_block : Statement → Block
first_block (if_else condition first otherwise) = first
first_block (while_do condition inside) = inside
first_block _ = empty

-- what a statement and what is in it undo, and what its first block does
abbrev pub undone_by : Side → ℕ → Statement → Undone
undone_by side lock s = record {
  whole = list_any (undoes side lock) (s ∷ within s);
  first = list_any (undoes side lock) (statements_in (first_block s));
}

abbrev pub nothing_undone : Undone
nothing_undone = record { whole = false; first = false }

-- from this place on, the marks are those of these statements
abbrev pub AreMarked : Side → ℕ → List Undone → (at : ℕ) → List Statement → Type 0
AreMarked side lock marks at statements = (rest : List Undone) × (drop at marks ≡ map (undone_by side lock) statements ++ rest)
