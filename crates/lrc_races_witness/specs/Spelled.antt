-- What is printed of two lines.
use Rattle.std.specs.Prelude.{ℕ, List, [], ◌++◌, Option, Some, None, Vec, codes, decimal, flat_map, slice_get, unwrap_or}
use Rattle.std.specs.declared.alloc.Global.{Global}
use Rattle.lrc_races_witness.specs.declared.relation.Relation.{Relation}
use Rattle.lrc_races_witness.specs.declared.relation.Relation.TheVariants.{NoAccess, OneThread, TwoVariables, BothRead, Ordered, Reached, Sure}

-- the text of a line, and no text where there is none
abbrev pub text_of : Option (Vec ℕ Global) → List ℕ
text_of (Some line) = line.items
text_of None = []

-- the text of the event at this position
abbrev pub text_at : List (Vec ℕ Global) → ℕ → List ℕ
text_at lines position = text_of (slice_get lines position)

-- each on a line
abbrev pub shown_line : List (Vec ℕ Global) → ℕ → List ℕ
shown_line lines position = text_at lines position ++ codes "\n"

abbrev pub shown_lines : List (Vec ℕ Global) → List ℕ → List ℕ
shown_lines lines positions = flat_map (shown_line lines) positions

abbrev pub name_at : List (List ℕ) → ℕ → List ℕ
name_at names number = unwrap_or (slice_get names number) []

abbrev pub reached_text : ℕ → ℕ → List ℕ
reached_text first second = (codes "line " ++ decimal second) ++ (codes " was reached by way of line " ++ decimal first)

-- why two lines are no sure race
abbrev pub reason_text : List (List ℕ) → ℕ → ℕ → Relation → List ℕ
reason_text names first second (NoAccess line) = (codes "line " ++ decimal line) ++ codes " is no access"
reason_text names first second (OneThread thread) = codes "both are of thread " ++ name_at names thread
reason_text names first second TwoVariables = codes "they are of different variables"
reason_text names first second BothRead = codes "both read"
reason_text names first second Ordered = reached_text first second
reason_text names first second Reached = reached_text first second ++ codes " (they race)"
reason_text names first second (Sure earlier later) = []

abbrev pub refusal_line : List (List ℕ) → ℕ → ℕ → Relation → List ℕ
refusal_line names first second relation = codes "no sure race: " ++ reason_text names first second relation ++ codes "\n"
