-- When a statement stands under an acquire, or a release, of a lock, said of its whole path.
use Rattle.std.specs.Prelude.{◌≡◌, ◌⊎◌, ℕ, true, false, [], ◌∷◌, ◌++◌}
use Rattle.lrc_program.specs.Statements.{Statement}
use Rattle.lrc_lint_warned.specs.declared.held.Side.{Side}
use Rattle.lrc_lint_warned.specs.Held.{Path, passes, at_start, step_undoes, takes}

-- none of these steps has a release, or an acquire, of this lock or of what is no constant in it
abbrev pub NoneUndoes : Side → ℕ → Path → Type 0
NoneUndoes side lock [] = Unit {0}
NoneUndoes side lock (step ∷ path) = (step_undoes side lock step ≡ false) × NoneUndoes side lock path

-- An acquire, or a release, of this lock stands before a statement in its list of statements or in a list around it, and nothing that
-- undoes it stands in the text between the two, or in a loop that is around the statement and not around the other.
pub record IsUnderOne (side : Side) (lock : ℕ) (path : Path) : Type 0 where
  pub between : Path
  pub one : Statement
  pub before : Path
  pub whole : path ≡ between ++ passes one ∷ before
  pub is_one : takes side lock one ≡ true
  pub kept : NoneUndoes side lock between

-- The beginning of the text counts as a release, and nothing that undoes it stands between it and the statement.
pub record IsUnderStart (side : Side) (lock : ℕ) (path : Path) : Type 0 where
  pub start : at_start side ≡ true
  pub kept : NoneUndoes side lock path

abbrev pub IsUnder : Side → ℕ → Path → Type 0
IsUnder side lock path = IsUnderOne side lock path ⊎ IsUnderStart side lock path
