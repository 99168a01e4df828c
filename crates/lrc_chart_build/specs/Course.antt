-- What is known of a run, and which of its rows are shown.
use Rattle.std.specs.Prelude.{ℕ, ◌+◌, ◌==◌, ◌&&◌, Bool, true, false, not, Option, None, Some, List, [], ◌∷◌, drop, if◌then◌else◌, length, nat_le, slice_get, take, unwrap_or}
use Rattle.std.specs.List.{position}
use Rattle.lrc_trace.specs.declared.act.Act.{Act}
use Rattle.lrc_trace.specs.declared.act.Deed.{Deed}
use Rattle.lrc_trace.specs.declared.act.Deed.TheVariants.{Quiet}
use Rattle.lrc_judge.specs.declared.lanes.Pair.{Pair}
use Rattle.lrc_labels.specs.Reading.{Label}
use Rattle.lrc_text.specs.Each.{each}
use Rattle.lrc_turns_text.specs.Turns.{Made}
use Rattle.lrc_chart_rows.specs.Rows.{rows_of, sends_some, takes_some}
use Rattle.lrc_chart_rows.specs.declared.row.Row.{Row}
use Rattle.lrc_chart_build.specs.declared.part.Part.{Part}
use Rattle.lrc_chart_build.specs.declared.part.Place.{Place}

-- Acts, in order; by their positions the line of the program's text that each is of, and the time that its node has just after it; of
-- each race named the first pair of acts that it names; and the labels of words and locks.
pub record KnownRecord : Type 0 where
  pub acts : List Act
  pub lines : List ℕ
  pub times : List (List ℕ)
  pub pairs : List Pair
  pub labels : List Label

-- A run: its turns, in order; of each turn the pages that become invalid at it; its acts, and what is known of them; and for whom each node
-- waits when the run has ended.
pub record CourseRecord : Type 0 where
  pub turns : List Made
  pub invalid : List (List ℕ)
  pub known : KnownRecord
  pub waits : List (Option ℕ)

-- ---- a part of a run

-- whether the act at this position is a row's
abbrev pub is_act_at : (position : ℕ) → Option ℕ → Bool
is_act_at position None = false
is_act_at position (Some act) = act == position

-- the place of the row of the act at a position, if it is among them
abbrev pub row_of_act : List Row → (act : ℕ) → Option ℕ
row_of_act rows act = position (λ row. is_act_at act row.act) rows

-- the same; where it is not, the number of the rows
abbrev pub place_of_act : List Row → (act : ℕ) → ℕ
place_of_act rows act = unwrap_or (row_of_act rows act) (length rows)

-- the place of the first row of a part
abbrev pub first_place : List Row → Option ℕ → ℕ
first_place rows None = 0
first_place rows (Some act) = place_of_act rows act

-- the place past the last row of a part
abbrev pub past_place : List Row → Option ℕ → ℕ
past_place rows None = length rows
past_place rows (Some act) = place_of_act rows act + 1

-- the rows of a part: from that of its first act to that of its last act, both among them
abbrev pub rows_in : Part → List Row → List Row
rows_in part rows = drop (first_place rows part.from) (take (past_place rows part.to) rows)

-- whether no row stands behind those of a part
abbrev pub ends_in : Part → List Row → Bool
ends_in part rows = nat_le (length rows) (past_place rows part.to)

-- ---- rows that are hidden

abbrev pub is_quiet_deed : Deed → Bool
is_quiet_deed Quiet = true
is_quiet_deed _ = false

abbrev pub is_quiet_act : Option Act → Bool
is_quiet_act None = false
is_quiet_act (Some act) = is_quiet_deed act.deed

-- whether a turn makes a quiet act, and takes and sends nothing
abbrev pub is_quiet_turn : Made → Bool
is_quiet_turn turn = is_quiet_act turn.entry.turn.act && (not (takes_some turn.entry.input) && not (sends_some turn.entry.turn.out))

abbrev pub is_quiet : Option Made → Bool
is_quiet None = false
is_quiet (Some turn) = is_quiet_turn turn

-- a row with its number
abbrev pub place_of : (number : ℕ) → Row → Place
place_of number row = record { number = number; turn = row.turn; act = row.act }

-- a row, unless it is hidden
abbrev pub kept : List Made → (hides : Bool) → (number : ℕ) → Row → List Place
kept turns hides number row = if hides && is_quiet (slice_get turns row.turn) then [] else place_of number row ∷ []

-- of the rows of a part, numbered from 0, those that are not hidden
abbrev pub kept_of : List Made → (hides : Bool) → List Row → List Place
kept_of turns hides rows = each (kept turns hides) rows

-- The rows of a run that are shown: those of a part of it, without those that have nothing but a quiet act where these are hidden.
-- A row keeps the number that it has where none is hidden.
abbrev pub rows_shown : CourseRecord → Part → List Place
rows_shown course part = kept_of course.turns part.hides_quiet (rows_in part (rows_of course.turns))

-- whether no row of the run stands behind the last row shown, but for those that are hidden
abbrev pub shows_end : CourseRecord → Part → Bool
shows_end course part = ends_in part (rows_of course.turns)

-- ---- acts in rows that are shown

-- the place of the row of the act at a position, if it is shown
abbrev pub shown_act : List Place → (act : ℕ) → Option ℕ
shown_act places act = position (λ place. is_act_at act place.act) places
