-- The lines that stand behind the line of a fault.
use Rattle.std.specs.Prelude.{ℕ, List, [], ◌++◌, Option, Some, None, codes, decimal}
use Rattle.std.specs.IoError.{error_kind}
use Rattle.std.specs.declared.io.Error.{Error}
use Rattle.std.specs.declared.io.ErrorKind.{ErrorKind}
use Rattle.std.specs.declared.io.ErrorKind.TheVariants.{BrokenPipe, OutOfMemory}
use Rattle.lrc_more_words.specs.Number.{greatest_of, least_of, number_out, option_of}
use Rattle.lrc_more_words.specs.Reason.{reason_text}
use Rattle.lrc_more_words.specs.declared.number.Numbered.{Numbered}

-- a file's name, and why the system refuses to read it
abbrev pub file_line : List ℕ → Error → List ℕ
file_line path error = codes "  " ++ path ++ codes ": " ++ reason_text error ++ codes "\n"

-- nothing where memory ran out, which the line of the fault says
abbrev pub file_lines_of : ErrorKind → List ℕ → Error → List ℕ
file_lines_of OutOfMemory path error = []
file_lines_of _ path error = file_line path error

abbrev pub file_lines : List ℕ → Error → List ℕ
file_lines path error = file_lines_of (error_kind error) path error

-- why the output ends early
abbrev pub output_line : Error → List ℕ
output_line error = codes "treadmarks: cannot write the output: " ++ reason_text error ++ codes "\n"

-- nothing where nobody reads it any more
abbrev pub output_lines_of : ErrorKind → Error → List ℕ
output_lines_of BrokenPipe error = []
output_lines_of _ error = output_line error

abbrev pub output_lines : Error → List ℕ
output_lines error = output_lines_of (error_kind error) error

-- an option, and the range of its number
abbrev pub number_line : Numbered → List ℕ
number_line numbered = codes "  " ++ option_of numbered ++ codes " is " ++ decimal (least_of numbered) ++ codes " to "
    ++ decimal (greatest_of numbered) ++ codes "\n"

abbrev pub number_lines_of : Option Numbered → List ℕ
number_lines_of (Some numbered) = number_line numbered
number_lines_of None = []

-- the first option of the words whose number is out of its range
abbrev pub number_lines : List (List ℕ) → List ℕ
number_lines words = number_lines_of (number_out words)

-- of a text of events that is too long
abbrev pub long_events_line : List ℕ
long_events_line = codes "  the events have more than 16777216 bytes\n"

-- of a run on threads that memory or the system refused
abbrev pub no_thread_line : List ℕ
no_thread_line = codes "  each node wants a thread: the system refused one, or memory ran out in one\n"
