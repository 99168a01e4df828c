-- The lines on files that cannot be read, and on want of memory.
use Rattle.std.specs.Prelude.{◌⊎◌, ℕ, List, Option, codes}
use Rattle.std.specs.Io.KnownBytes.{Appends}
use Rattle.std.specs.declared.io.ErrorKind.{ErrorKind}
use Rattle.std.specs.declared.io.ErrorKind.TheVariants.{OutOfMemory}
use Rattle.lrc_report.specs.Output.{AppendsFront}

-- a line is written, or a front of it
abbrev pub IsTold : Option (List ℕ) → Option (List ℕ) → List ℕ → Type 0
IsTold old new line = Appends old new line ⊎ AppendsFront old new line

-- the line where memory runs out
abbrev pub memory_line : List ℕ
memory_line = codes "treadmarks: out of memory\n"

-- the line where a file cannot be read
abbrev pub read_line : ErrorKind → List ℕ
read_line OutOfMemory = memory_line
read_line _ = codes "treadmarks: cannot read file\n"
