-- Circles of waiting in a picture.
use Rattle.std.specs.Prelude.{ℕ, ◌==◌, ◌&&◌, ◌+◌, Bool, true, false, not, Option, None, Some, List, [], ◌∷◌, drop, length, slice_get}
use Rattle.std.specs.List.{flat_map, list_any, range_with_len}
use Rattle.lrc_explain_waits.specs.Circles.{circle_of, circle_words}
use Rattle.lrc_turns_text.specs.Turns.{Made}
use Rattle.lrc_chart_model.specs.declared.picture.Kind.{Kind}
use Rattle.lrc_chart_model.specs.declared.picture.Kind.TheVariants as kinds
use Rattle.lrc_chart_build.specs.Waits.{turn_kind}
use Rattle.lrc_chart_build.specs.declared.part.Place.{Place}

-- the nodes of a circle, the first of them and those behind it
abbrev pub nodes_if : (first : ℕ) → Option (List ℕ) → List ℕ
nodes_if first None = []
nodes_if first (Some way) = first ∷ way

-- the nodes of all circles of this waiting
abbrev pub circled_nodes : List (Option ℕ) → List ℕ
circled_nodes waits = flat_map (λ first. nodes_if first (circle_of waits first)) (range_with_len 0 (length waits))

-- the words of a circle
abbrev pub line_if : (first : ℕ) → Option (List ℕ) → List (List ℕ)
line_if first None = []
line_if first (Some way) = circle_words first way ∷ []

-- a line for each circle, by its lowest node
abbrev pub deadlock_lines : List (Option ℕ) → List (List ℕ)
deadlock_lines waits = flat_map (λ first. line_if first (circle_of waits first)) (range_with_len 0 (length waits))

-- ---- the last rows of their nodes

-- whether a row of this kind has an act, or its node begins to wait at it
abbrev pub acts_or_waits : Kind → Bool
acts_or_waits kinds.Message = false
acts_or_waits _ = true

-- whether a node makes this turn, if there is one, and acts or begins to wait at it
abbrev pub is_mark_of : List Made → (node position : ℕ) → Option Made → Bool
is_mark_of turns node position None = false
is_mark_of turns node position (Some turn) = (turn.node == node) && acts_or_waits (turn_kind turns position turn)

-- whether a node acts or begins to wait at one of these rows
abbrev pub marks_some : List Made → (node : ℕ) → List Place → Bool
marks_some turns node places = list_any (λ place. is_mark_of turns node place.turn (slice_get turns place.turn)) places

-- Whether the row at a place has a border: its turn is of a node of a circle, which acts or begins to wait at it, and at none of the rows
-- below it.
abbrev pub is_circled : List Made → (circled : List ℕ) → List Place → (at : ℕ) → Place → Made → Bool
is_circled turns circled places at place turn =
    list_any (λ node. node == turn.node) circled
    && (acts_or_waits (turn_kind turns place.turn turn) && not (marks_some turns turn.node (drop (at + 1) places)))
