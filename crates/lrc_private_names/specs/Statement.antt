-- Which private names a statement reads and sets. A name is its number: how many others come before it in the text.
use Rattle.std.specs.Prelude.{ℕ, ◌==◌, ◌||◌, Bool, false, Option, Some, None}
use Rattle.lrc_program.specs.declared.Expression.{Expression}
use Rattle.lrc_program.specs.declared.Expression.TheVariants.{Private, Binary'}
use Rattle.lrc_program.specs.declared.Statement.{Statement}
use Rattle.lrc_program.specs.declared.Statement.TheVariants.{Assign, Read, Write, Acquire, Release, Print, If', While'}

-- whether an expression has the name
abbrev pub has_name : (name : ℕ) → Expression → Bool
has_name name (Private other) = other == name
has_name name (Binary' p left operator q right) = has_name name left || has_name name right
has_name name _ = false

-- whether a statement reads the name: of `if` and `while` the condition alone
abbrev pub reads_name : (name : ℕ) → Statement → Bool
reads_name name (Assign set value) = has_name name value
reads_name name (Read set word) = has_name name word
reads_name name (Write word value) = has_name name word || has_name name value
reads_name name (Acquire lock) = has_name name lock
reads_name name (Release lock) = has_name name lock
reads_name name (Print value) = has_name name value
reads_name name (If' condition p first q second) = has_name name condition
reads_name name (While' condition p body) = has_name name condition
reads_name name _ = false

-- the name that a statement sets: an assignment, or a shared read
abbrev pub name_set : Statement → Option ℕ
name_set (Assign name value) = Some name
name_set (Read name word) = Some name
name_set _ = None
