-- The line of the run with reasons: what `explain` prints, how each node ended, and which nodes wait in a circle.
use Rattle.std.specs.Prelude.{◌≡◌, ◌<◌, ◌^◌, ℕ, Bool, true, false, List, [], ◌∷◌, ◌++◌, Option, None, Some, codes, decimal, length}
use Rattle.std.specs.List.{flat_map, range_with_len}
use Rattle.lrc_program.specs.declared.Program.{Program}
use Rattle.lrc_trace.specs.declared.act.Act.{Act}
use Rattle.lrc_trace.specs.declared.act.Deed.{Deed}
use Rattle.lrc_trace.specs.declared.act.Deed.TheVariants.{Print}
use Rattle.lrc_trace.specs.Run.{count_of}
use Rattle.lrc_text.specs.Each.{each}
use Rattle.lrc_source.specs.Telling.{AreLines, ReadText}
use Rattle.lrc_explain_waits.specs.declared.stand.Fate.{Fate}
use Rattle.lrc_explain_waits.specs.declared.stand.Fate.TheVariants.{Ended, Trapped, Unfinished}
use Rattle.lrc_explain_waits.specs.declared.stand.Stand.{Stand}
use Rattle.lrc_explain_waits.specs.Circles.{circle_of, waits_of}
use Rattle.lrc_explain_waits.specs.Stand.{stands_of}
use Rattle.lrc_step.specs.declared.end_lines.End.{End}
use Rattle.lrc_step.specs.Lines.{comma_text, lines_in, numbers_text, quoted_each}

-- whether a deed prints
abbrev pub is_print : Deed → Bool
is_print (Print value) = true
is_print _ = false

-- how a node ended that stands so, and how many values it printed
abbrev pub end_of : List Act → (node : ℕ) → Stand → End
end_of acts node stand = record { fate = stand.fate; line = stand.line; prints = count_of is_print node acts }

-- the same of each node
abbrev pub ends_of : List Act → List Stand → List End
ends_of acts stands = each (λ node stand. end_of acts node stand ∷ []) stands

-- the nodes of a circle of waiting, from the lowest one on, if there is one
abbrev pub circle_if : (first : ℕ) → Option (List ℕ) → List (List ℕ)
circle_if first None = []
circle_if first (Some way) = (first ∷ way) ∷ []

-- the circles of waiting, by their lowest nodes
abbrev pub circles_of : List (Option ℕ) → List (List ℕ)
circles_of waits = flat_map (λ first. circle_if first (circle_of waits first)) (range_with_len 0 (length waits))

-- ---- their text

-- how a node ended, in a word
abbrev pub end_word : Fate → List ℕ
end_word Ended = codes "ended"
end_word (Trapped cause) = codes "trapped"
end_word Unfinished = codes "unfinished"

unfoldable pub end_text : End → List ℕ
end_text end = codes "{\"end\":\"" ++ end_word end.fate ++ codes "\",\"line\":" ++ decimal end.line ++ codes ",\"prints\":" ++ decimal end.prints ++ codes "}"

abbrev pub end_at : ℕ → End → List ℕ
end_at node end = comma_text node ++ end_text end

-- those of each node
abbrev pub ends_text : List End → List ℕ
ends_text ends = each end_at ends

-- the nodes of a circle
abbrev pub circle_at : ℕ → List ℕ → List ℕ
circle_at place circle = comma_text place ++ numbers_text circle

abbrev pub circles_text : List (List ℕ) → List ℕ
circles_text circles = each circle_at circles

-- the run with reasons, by its lines; by nodes how each ended; and the circles of waiting
abbrev pub explain_line : (lines : List (List ℕ)) → List End → (circles : List (List ℕ)) → List ℕ
explain_line lines ends circles = codes "{\"explain\":[" ++ quoted_each lines ++ codes "],\"ends\":[" ++ ends_text ends
    ++ codes "],\"deadlocks\":[" ++ circles_text circles ++ codes "]}\n"

-- the line and how many values were printed are numbers of 64 bits
abbrev pub IsEndOfWords : End → Type 0
IsEndOfWords end = (end.line < 2 ^ 64) × (end.prints < 2 ^ 64)

-- the line where the nodes stand so
abbrev pub stands_line : List Act → List Stand → (printed : List ℕ) → List ℕ
stands_line acts stands printed = explain_line (lines_in printed) (ends_of acts stands) (circles_of (waits_of stands))

-- The line has the lines that were printed, and tells how the nodes ended once these acts were followed, each with so many steps, and which of
-- them wait in a circle.
pub record TellsEnds (text : ReadText) (program : Program) (nodes steps : ℕ) (acts : List Act) (printed line : List ℕ) : Type 0 where
  pub lines : List ℕ
  pub are_lines : AreLines text program lines
  pub whole : line ≡ stands_line acts (stands_of program nodes lines (Some steps) acts) printed
