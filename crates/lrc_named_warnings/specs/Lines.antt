-- The lines of warnings, each once.
use Rattle.std.specs.Prelude.{ℕ, ◌==◌, ◌&&◌, Bool, List, [], ◌∷◌, ◌++◌, codes, if◌then◌else◌, take}
use Rattle.std.specs.List.{flat_map, list_any}
use Rattle.std.specs.Str.{bytes_eq}
use Rattle.lrc_text.specs.Each.{each}
use Rattle.lrc_lint_lines.specs.Head.{place_text}
use Rattle.lrc_named_warnings.specs.declared.note.Note.{Note}
use Rattle.lrc_named_warnings.specs.Context.{Context}
use Rattle.lrc_named_warnings.specs.Words.{says_text}

-- a warning in words, and the line and the column that it stands at
pub record Line : Type 0 where
  pub line : ℕ
  pub column : ℕ
  pub words : List ℕ

abbrev pub line_of : Context → Note → Line
line_of c note = record { line = note.line; column = note.column; words = says_text c note.says }

-- two stand at one place and say the same
abbrev pub is_same : Line → Line → Bool
is_same one other = (one.line == other.line) && (one.column == other.column) && bytes_eq one.words other.words

-- a line, unless one of those before it is the same
abbrev pub unless_told : List Line → Line → List Line
unless_told before line = if list_any (is_same line) before then [] else line ∷ []

-- each line, unless an earlier one is the same
abbrev pub firsts : List Line → List Line
firsts lines = each (λ i line. unless_told (take i lines) line) lines

abbrev pub line_text : List ℕ → Line → List ℕ
line_text file line = place_text file line.line line.column ++ codes "warning: " ++ line.words ++ codes "\n"

abbrev pub lines_text : List ℕ → List Line → List ℕ
lines_text file lines = flat_map (line_text file) lines
