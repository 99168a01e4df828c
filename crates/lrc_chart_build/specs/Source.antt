-- The program's text beside a picture.
use Rattle.std.specs.Prelude.{ℕ, ◌+◌, ◌==◌, ◌&&◌, Bool, true, false, Option, None, Some, List, [], ◌∷◌, if◌then◌else◌, length, slice_index}
use Rattle.std.specs.List.{list_any}
use Rattle.lrc_labels.specs.Cut.{cut, divides}
use Rattle.lrc_labels.specs.declared.cut.Divider.TheVariants.{LineFeed}
use Rattle.lrc_text.specs.Each.{each}
use Rattle.lrc_chart_build.specs.Seen.{SeenLine}
use Rattle.lrc_chart_build.specs.declared.part.Place.{Place}

-- whether there is an act, and it is of this line
abbrev pub is_on_line : (lines : List ℕ) → (line : ℕ) → Option ℕ → Bool
is_on_line lines line None = false
is_on_line lines line (Some act) = slice_index lines act == line

-- a line of the text with its number; it is marked where an act of a row shown is of it
abbrev pub source_line : (lines : List ℕ) → List Place → (number : ℕ) → List ℕ → SeenLine
source_line lines places number words = record { words = words; marked = list_any (λ place. is_on_line lines number place.act) places }

abbrev pub has_none : List ℕ → Bool
has_none [] = true
has_none (byte ∷ rest) = false

-- a line of these, from 1; nothing for an empty one behind all others, where the text ends with a line feed
abbrev pub source_at : (lines : List ℕ) → List Place → (count : ℕ) → (place : ℕ) → List ℕ → List SeenLine
source_at lines places count place words =
    if (place + 1 == count) && has_none words then [] else source_line lines places (place + 1) words ∷ []

abbrev pub source_lines : (lines : List ℕ) → List Place → List (List ℕ) → List SeenLine
source_lines lines places pieces = each (source_at lines places (length pieces)) pieces

-- what stands between the line feeds of a text, from line 1; nothing where no text is given
abbrev pub shown_source : (lines : List ℕ) → List Place → Option (List ℕ) → List SeenLine
shown_source lines places None = []
shown_source lines places (Some text) = source_lines lines places (cut (divides LineFeed) text)
