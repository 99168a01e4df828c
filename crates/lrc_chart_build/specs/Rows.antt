-- The rows of a picture: one for each row shown, by its turn.
use Rattle.std.specs.Prelude.{ℕ, Option, None, Some, List, [], ◌∷◌, slice_get, take}
use Rattle.lrc_text.specs.Each.{each}
use Rattle.lrc_turns_text.specs.Turns.{Made}
use Rattle.lrc_chart_build.specs.Circles.{is_circled}
use Rattle.lrc_chart_build.specs.Course.{CourseRecord}
use Rattle.lrc_chart_build.specs.Seen.{SeenRow}
use Rattle.lrc_chart_build.specs.Waits.{invalid_text, turn_kind, turn_words}
use Rattle.lrc_chart_build.specs.Words.{act_closes, act_place_text, hint_text, new_time_text}
use Rattle.lrc_chart_build.specs.declared.part.Place.{Place}

-- the row at a place, and the turn that it is of
abbrev pub shown_row : CourseRecord → (circled : List ℕ) → List Place → (at : ℕ) → Place → Made → SeenRow
shown_row course circled places at place turn = record {
  number = place.number;
  column = turn.node;
  kind = turn_kind course.turns place.turn turn;
  words = turn_words course place turn;
  time = new_time_text course.known (take at places) turn.node place.act;
  invalid = invalid_text course.invalid place.turn;
  place = act_place_text course.known turn.node place.act;
  hint = hint_text course.known place.act;
  closes = act_closes turn.entry.turn.act;
  circled = is_circled course.turns circled places at place turn;
}

-- the same, if there is such a turn
abbrev pub shown_if : CourseRecord → (circled : List ℕ) → List Place → (at : ℕ) → Place → Option Made → List SeenRow
shown_if course circled places at place None = []
shown_if course circled places at place (Some turn) = shown_row course circled places at place turn ∷ []

-- the rows shown, where these are the nodes of the circles of waiting
abbrev pub shown_rows : CourseRecord → (circled : List ℕ) → List Place → List SeenRow
shown_rows course circled places = each (λ at place. shown_if course circled places at place (slice_get course.turns place.turn)) places
