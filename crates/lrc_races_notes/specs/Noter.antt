-- What is known of the lines of which something is to be noted.
use Rattle.std.specs.Prelude.{◌≡◌, ◌↔◌, ℕ, ◌+◌, Bool, true, false, List, [], ◌∷◌, ◌++◌, Option, None, Some, IsTrue, if◌then◌else◌, length, take}
use Rattle.lrc_races_text.specs.declared.form.Form.{Form}
use Rattle.lrc_races_notes.specs.Notes.{HasNoBlank, IsFirstBlank, IsMarkedFirst, blank_note, mark_note}
use Rattle.lrc_races_notes.specs.declared.noter.Noter.{Noter}

-- whether the first line begins with a byte order mark
abbrev pub IsMarkOf : Form → List (List ℕ) → Bool → Type 0
IsMarkOf form lines marked = IsTrue marked ↔ IsMarkedFirst form lines

-- which line is the first that ends with a blank
abbrev pub IsBlankOf : Form → List (List ℕ) → Option ℕ → Type 0
IsBlankOf form lines None = HasNoBlank form lines
IsBlankOf form lines (Some number) = IsFirstBlank form lines number

-- This is known of the lines.
pub record HasNoted (form : Form) (lines : List (List ℕ)) (noter : Noter) : Type 0 where
  pub mark : IsMarkOf form lines noter.marked
  pub blank : IsBlankOf form lines noter.blank

-- so it is of one line more, which has this number
abbrev pub MarksMore : Form → List ℕ → ℕ → Bool → Bool → Type 0
MarksMore form line number before after = (lines : List (List ℕ)) → number ≡ length lines + 1 → IsMarkOf form lines before
    → IsMarkOf form (lines ++ line ∷ []) after

abbrev pub BlanksMore : Form → List ℕ → ℕ → Option ℕ → Option ℕ → Type 0
BlanksMore form line number before after = (lines : List (List ℕ)) → number ≡ length lines + 1 → IsBlankOf form lines before
    → IsBlankOf form (lines ++ line ∷ []) after

abbrev pub NotesMore : Form → List ℕ → ℕ → Noter → Noter → Type 0
NotesMore form line number before after = (lines : List (List ℕ)) → number ≡ length lines + 1 → HasNoted form lines before
    → HasNoted form (lines ++ line ∷ []) after

-- and so it is of the first lines alone
abbrev pub MarksUpTo : ℕ → Bool → Bool → Type 0
MarksUpTo count whole part = (form : Form) (lines : List (List ℕ)) → IsMarkOf form lines whole → IsMarkOf form (take count lines) part

abbrev pub BlanksUpTo : ℕ → Option ℕ → Option ℕ → Type 0
BlanksUpTo count whole part = (form : Form) (lines : List (List ℕ)) → IsBlankOf form lines whole → IsBlankOf form (take count lines) part

abbrev pub NotesUpTo : ℕ → Noter → Noter → Type 0
NotesUpTo count whole part = (form : Form) (lines : List (List ℕ)) → HasNoted form lines whole → HasNoted form (take count lines) part

-- the text of what is known
abbrev pub mark_part : Bool → List ℕ
mark_part marked = if marked then mark_note else []

abbrev pub blank_part : Option ℕ → List ℕ
blank_part None = []
blank_part (Some number) = blank_note number

abbrev pub notes_of : Noter → List ℕ
notes_of noter = mark_part noter.marked ++ blank_part noter.blank

-- the text of what is known more than before
abbrev pub more_mark : Bool → Bool → List ℕ
more_mark told marked = if told then [] else mark_part marked

abbrev pub more_blank : Option ℕ → Option ℕ → List ℕ
more_blank None blank = blank_part blank
more_blank (Some number) blank = []

abbrev pub more_notes : Noter → Noter → List ℕ
more_notes told noter = more_mark told.marked noter.marked ++ more_blank told.blank noter.blank

-- a mark that was told is to be told, and one that was not is told before nothing else
abbrev pub TellsMark : Noter → Bool → Type 0
TellsMark told marked = (told.marked ≡ true → marked ≡ true) × (told.marked ≡ false → marked ≡ true → told.blank ≡ None)

-- a blank that was told is the one that is to be told
abbrev pub TellsBlank : Option ℕ → Option ℕ → Type 0
TellsBlank told blank = (number : ℕ) → told ≡ Some number → blank ≡ Some number
