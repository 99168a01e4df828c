-- Label lines: comments that begin with `#:`.
use Rattle.std.specs.Prelude.{ℕ, ◌+◌, ◌==◌, Bool, true, false, Option, Some, None, List, [], ◌∷◌, drop, filter, position, if◌then◌else◌}
use Rattle.lrc_labels.specs.declared.cut.Divider.TheVariants.{Blank, Hash}
use Rattle.lrc_labels.specs.declared.line.LabelLine as code_line
use Rattle.lrc_labels.specs.Cut.{cut, divides}

-- a comment that begins with `#:`: the column of its `#` in its line, counted from 1, and what stands behind the `#:`
pub record LabelLine : Type 0 where
  pub column : ℕ
  pub body : List ℕ

-- a label line of the code
abbrev pub line_seen : code_line.LabelLine → LabelLine
line_seen found = record { column = found.column; body = found.body.now }

-- the comment that begins in this column, if it is a label line; these bytes stand behind its `#`
abbrev pub label_line_behind : ℕ → List ℕ → Option LabelLine
label_line_behind column [] = None
label_line_behind column (mark ∷ body) = if mark == 58 then Some (record { column = column; body = body }) else None

abbrev pub label_line_at : List ℕ → Option ℕ → Option LabelLine
label_line_at line None = None
label_line_at line (Some at) = label_line_behind (at + 1) (drop (at + 1) line)

-- The label line in a line of a text: a line's comment begins at its first `#`, since nothing else of the language has a `#`.
abbrev pub label_line_in : List ℕ → Option LabelLine
label_line_in line = label_line_at line (position (divides Hash) line)

abbrev pub has_bytes : List ℕ → Bool
has_bytes [] = false
has_bytes (byte ∷ rest) = true

-- what stands between the blanks of a text
abbrev pub fields_of : List ℕ → List (List ℕ)
fields_of text = filter has_bytes (cut (divides Blank) text)
