-- What says more of a fault, where standard error is a terminal.
use Rattle.std.specs.Prelude.{◌⊎◌, ℕ, Bool, true, false, List, [], Option, None, Some}
use Rattle.std.specs.Io.KnownBytes.{Keeps}
use Rattle.std.specs.declared.io.Error.{Error}
use Rattle.lrc_more_words.specs.Lines.{file_lines, output_lines}
use Rattle.lrc_shell_more.specs.declared.more.Unread.{Unread}
use Rattle.lrc_shell_sources.specs.Lines.{IsTold, memory_line}

-- On a terminal these lines are written, or that there was no memory for them, and elsewhere nothing.
abbrev pub IsMoreTold : Bool → (List ℕ → Type 0) → Option (List ℕ) → Option (List ℕ) → Type 0
IsMoreTold false more err err' = Keeps err err'
IsMoreTold true more err err' = IsTold err err' memory_line ⊎ ((lines : List ℕ) × more lines × IsTold err err' lines)

-- a line is written, and what says more of it
pub record IsToldMore (terminal : Bool) (line : List ℕ) (more : List ℕ → Type 0) (err err' : Option (List ℕ)) : Type 0 where
  pub between : Option (List ℕ)
  pub told : IsTold err between line
  pub behind : IsMoreTold terminal more between err'

-- where the output ended early, by this error, if it did
abbrev pub failure_lines : Option Error → List ℕ
failure_lines (Some error) = output_lines error
failure_lines None = []

-- a file that could not be read, and why
abbrev pub unread_seen : Option Unread → Option (List ℕ × Error)
unread_seen (Some unread) = Some (unread.path.now, unread.error)
unread_seen None = None

abbrev pub unread_lines : Option (List ℕ × Error) → List ℕ
unread_lines (Some unread) = file_lines unread.0 unread.1
unread_lines None = []
