-- By which error a write failed last.
use Rattle.std.specs.Prelude.{ℕ, Option, Some, Result, Ok, Err}
use Rattle.std.specs.IoError.{error_kind}
use Rattle.std.specs.declared.io.Error.{Error}
use Rattle.std.specs.declared.io.ErrorKind.{ErrorKind}
use Rattle.std.specs.declared.io.ErrorKind.TheVariants.{Interrupted}

-- behind an error of this kind: an interruption is no failure, since such a write is tried again
abbrev pub failure_kept : ErrorKind → Option Error → Error → Option Error
failure_kept Interrupted before error = before
failure_kept _ before error = Some error

-- behind a write that was answered so
abbrev pub failure_after : Option Error → Result ℕ Error → Option Error
failure_after before (Ok count) = before
failure_after before (Err error) = failure_kept (error_kind error) before error
