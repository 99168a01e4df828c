-- Which acts are shown.
use Rattle.std.specs.Prelude.{ℕ, ◌-◌, ◌&&◌, not, Bool, true, Option, None, Some, List, [], ◌∷◌, if◌then◌else◌, nat_le, unwrap_or}
use Rattle.lrc_trace.specs.declared.act.Act.{Act}
use Rattle.lrc_text.specs.Each.{each}
use Rattle.lrc_chart_build.specs.Course.{is_quiet_deed}
use Rattle.lrc_chart_build.specs.declared.part.Part.{Part}
use Rattle.lrc_chart_build.specs.declared.part.Place.{Place}

abbrev pub is_from : Option ℕ → (position : ℕ) → Bool
is_from None position = true
is_from (Some first) position = nat_le first position

abbrev pub is_up_to : Option ℕ → (position : ℕ) → Bool
is_up_to None position = true
is_up_to (Some last) position = nat_le position last

-- an act is shown: it is of the part, and not one that is hidden
abbrev pub is_shown : Part → (position : ℕ) → Act → Bool
is_shown part position act = is_from part.from position && (is_up_to part.to position && not (part.hides_quiet && is_quiet_deed act.deed))

-- its row, with its number in the part
abbrev pub row_of_act : Part → (position : ℕ) → Place
row_of_act part position = record { number = position - unwrap_or part.from 0; turn = position; act = Some position }

abbrev pub row_if : Part → (position : ℕ) → Act → List Place
row_if part position act = if is_shown part position act then row_of_act part position ∷ [] else []

-- A row for each act that is shown, numbered from the first of the part. An act keeps its number where others are hidden.
abbrev pub acts_shown : Part → List Act → List Place
acts_shown part acts = each (row_if part) acts
