-- Bytes of a line that are seldom meant.
use Rattle.std.specs.Prelude.{◌≡◌, ℕ, ◌-◌, ◌⊎◌, List, Option, Some, length, slice_get}
use Rattle.lrc_races_lines.specs.Cause.{IsMarked}
use Rattle.lrc_races_lines.specs.Line.{Saying, Says}
use Rattle.lrc_races_text.specs.declared.form.Form.{Form}
use Rattle.lrc_races_text.specs.declared.form.Form.TheVariants.{Std, Acts}

-- the last byte of a text, if it has one
abbrev pub last_of : List ℕ → Option ℕ
last_of text = slice_get text (length text - 1)

-- it is a space or a tab
abbrev pub EndsBlank : List ℕ → Type 0
EndsBlank text = (last_of text ≡ Some 32) ⊎ (last_of text ≡ Some 9)

-- the line says an event
abbrev pub IsEvent : List ℕ → Type 0
IsEvent line = (saying : Saying) × Says line saying

-- and begins with a byte order mark, which is part of the thread's name
abbrev pub IsMarkedEvent : List ℕ → Type 0
IsMarkedEvent line = IsMarked line × IsEvent line

-- The line says an event whose location ends with a blank.
pub record IsBlankEnded (line : List ℕ) : Type 0 where
  pub saying : Saying
  pub says : Says line saying
  pub blank : EndsBlank saying.location

-- A line with an act has neither: it begins with a digit, and a location there is of digits.
abbrev pub IsMarkedIn : Form → List ℕ → Type 0
IsMarkedIn Std line = IsMarkedEvent line
IsMarkedIn Acts line = ⊥

abbrev pub IsBlankIn : Form → List ℕ → Type 0
IsBlankIn Std line = IsBlankEnded line
IsBlankIn Acts line = ⊥
