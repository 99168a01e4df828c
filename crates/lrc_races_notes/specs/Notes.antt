-- What is noted of the lines of a trace.
use Rattle.std.specs.Prelude.{◌≡◌, ℕ, ◌+◌, List, [], ◌∷◌, ◌++◌, codes, decimal, length}
use Rattle.lrc_races_text.specs.declared.form.Form.{Form}
use Rattle.lrc_races_notes.specs.Signs.{IsBlankIn, IsMarkedIn}

-- the first line begins with a byte order mark, which is part of a name
abbrev pub IsMarkedFirst : Form → List (List ℕ) → Type 0
IsMarkedFirst form [] = ⊥
IsMarkedFirst form (line ∷ lines) = IsMarkedIn form line

-- no line ends with a blank that is part of a location
abbrev pub HasNoBlank : Form → List (List ℕ) → Type 0
HasNoBlank form [] = Unit {0}
HasNoBlank form (line ∷ lines) = ¬ IsBlankIn form line × HasNoBlank form lines

-- The first line that does has this number, counted from 1.
pub record IsFirstBlank (form : Form) (lines : List (List ℕ)) (number : ℕ) : Type 0 where
  pub before : List (List ℕ)
  pub line : List ℕ
  pub after : List (List ℕ)
  pub whole : lines ≡ before ++ line ∷ after
  pub counted : number ≡ length before + 1
  pub none : HasNoBlank form before
  pub blank : IsBlankIn form line

-- the note on a byte order mark
abbrev pub mark_note : List ℕ
mark_note = codes "treadmarks: trace line 1: a byte order mark is part of a name\n"

-- the note on a blank
abbrev pub blank_note : ℕ → List ℕ
blank_note number = codes "treadmarks: trace line " ++ decimal number ++ codes ": a blank at the end of a line is part of a location\n"

-- what is noted of a byte order mark
pub data IsMarkNote (form : Form) (lines : List (List ℕ)) : List ℕ → Type 0 where
  first_marked : IsMarkedFirst form lines → IsMarkNote form lines mark_note
  not_marked : ¬ IsMarkedFirst form lines → IsMarkNote form lines []

-- what is noted of a blank, once
pub data IsBlankNote (form : Form) (lines : List (List ℕ)) : List ℕ → Type 0 where
  first_blank : {number : ℕ} → IsFirstBlank form lines number → IsBlankNote form lines (blank_note number)
  none_blank : HasNoBlank form lines → IsBlankNote form lines []

-- This is noted of the lines.
pub record AreNotes (form : Form) (lines : List (List ℕ)) (text : List ℕ) : Type 0 where
  pub mark : List ℕ
  pub blank : List ℕ
  pub of_mark : IsMarkNote form lines mark
  pub of_blank : IsBlankNote form lines blank
  pub whole : text ≡ mark ++ blank
