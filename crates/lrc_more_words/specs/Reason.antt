-- Why the system refuses a read or a write, in its words.
use Rattle.std.specs.Prelude.{ℕ, ℤ, ◌==◌, List, [], ◌++◌, Option, Some, None, codes, decimal, if◌then◌else◌, length, unsigned_abs}
use Rattle.std.specs.IoError.{error_kind, raw_os_error}
use Rattle.std.specs.declared.io.Error.{Error}
use Rattle.std.specs.declared.io.ErrorKind.{ErrorKind}
use Rattle.std.specs.declared.io.ErrorKind.TheVariants.{NotFound, PermissionDenied, NotADirectory, IsADirectory, FilesystemLoop, InvalidFilename, StorageFull, FileTooLarge}

-- the system's words for a kind of error, none where the kind has none of its own
abbrev pub kind_words : ErrorKind → List ℕ
kind_words NotFound = codes "No such file or directory"
kind_words PermissionDenied = codes "Permission denied"
kind_words NotADirectory = codes "Not a directory"
kind_words IsADirectory = codes "Is a directory"
kind_words FilesystemLoop = codes "Too many levels of symbolic links"
kind_words InvalidFilename = codes "File name too long"
kind_words StorageFull = codes "No space left on device"
kind_words FileTooLarge = codes "File too large"
kind_words _ = []

-- the number of an error, where it is the system's
abbrev pub code_text : Option ℤ → List ℕ
code_text (Some code) = codes "error " ++ decimal (unsigned_abs code)
code_text None = codes "unknown error"

abbrev pub reason_or_code : List ℕ → Option ℤ → List ℕ
reason_or_code words code = if length words == 0 then code_text code else words

-- the words of an error, or its number
abbrev pub reason_text : Error → List ℕ
reason_text error = reason_or_code (kind_words (error_kind error)) (raw_os_error error)
