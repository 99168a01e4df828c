-- Words and locks that there are not.
use Rattle.std.specs.Prelude.{ℕ, ◌+◌, Option, Some, None, List, [], if◌then◌else◌, nat_lt}
use Rattle.std.specs.List.{flat_map}
use Rattle.lrc_program.specs.Statements.{Statement, read, write, acquire, release}
use Rattle.lrc_lint_warned.specs.declared.found.Found.{Found}
use Rattle.lrc_lint_warned.specs.declared.found.Kind.{Kind}
use Rattle.lrc_lint_warned.specs.declared.found.Kind.TheVariants.{NoSuchWord, NoSuchLock}
use Rattle.lrc_lint_warned.specs.Constant.{constant_of}
use Rattle.lrc_lint_warned.specs.Found.{StatementAt, found_at}

-- a constant that is not below a limit
abbrev pub word_beyond : ℕ → Option ℕ → Option Kind
word_beyond words None = None
word_beyond words (Some word) = if nat_lt word words then None else Some (NoSuchWord word)

abbrev pub lock_beyond : ℕ → Option ℕ → Option Kind
lock_beyond locks None = None
lock_beyond locks (Some lock) = if nat_lt lock locks then None else Some (NoSuchLock lock)

-- A shared access of a constant that is not below the number of words. The constant begins behind `name = [`, or behind `[`.
abbrev pub no_such_word_at : ℕ → ℕ → Statement → List Found
no_such_word_at words at (read k word) = found_at (at + 3) (word_beyond words (constant_of word))
no_such_word_at words at (write word value) = found_at (at + 1) (word_beyond words (constant_of word))
no_such_word_at words at _ = []

-- An acquire or a release of a constant that is not below the number of locks. The constant begins behind the keyword.
abbrev pub no_such_lock_at : ℕ → ℕ → Statement → List Found
no_such_lock_at locks at (acquire lock) = found_at (at + 1) (lock_beyond locks (constant_of lock))
no_such_lock_at locks at (release lock) = found_at (at + 1) (lock_beyond locks (constant_of lock))
no_such_lock_at locks at _ = []

abbrev pub no_such_word : ℕ → List StatementAt → List Found
no_such_word words statements = flat_map (λ s. no_such_word_at words s.at s.statement) statements

abbrev pub no_such_lock : ℕ → List StatementAt → List Found
no_such_lock locks statements = flat_map (λ s. no_such_lock_at locks s.at s.statement) statements
