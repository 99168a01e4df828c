-- How wide columns are, and how far they stand from the left, in pixels.
use Rattle.std.specs.Prelude.{ℕ, ◌+◌, ◌==◌, Vec, List, [], ◌∷◌, ◌++◌, fold, if◌then◌else◌, length, max, min, slice_index_or}
use Rattle.std.specs.declared.alloc.Global.{Global}
use Rattle.lrc_chart_model.specs.declared.picture.Lost.{Lost}
use Rattle.lrc_chart_model.specs.declared.picture.Picture.{Picture}
use Rattle.lrc_chart_svg.specs.declared.frames.Frame.{Frame}
use Rattle.lrc_chart_svg.specs.declared.lanes.Lane.{Lane}
use Rattle.lrc_chart_svg.specs.Flow.{letters, wide}
use Rattle.lrc_chart_svg.specs.Frames.{frames_of}
use Rattle.lrc_chart_svg.specs.Rooms.{gap_of}

-- the most letters beside each other in the boxes of this column, and so many at least
abbrev pub most_of_rows : (column least : ℕ) → List Frame → ℕ
most_of_rows column least frames = fold (λ most frame. if frame.column == column then max most frame.letters else most) least frames

-- the same of the messages to it that were never taken
abbrev pub most_of_lost : (column least : ℕ) → List Lost → ℕ
most_of_lost column least all = fold (λ most lost. if lost.receiver == column then max most (letters lost.label.items) else most) least all

-- the most letters beside each other in a column: in its name, in its boxes, and of messages to it that were never taken
abbrev pub lane_letters : (column : ℕ) → (name : List ℕ) → List Frame → List Lost → ℕ
lane_letters column name frames lost = most_of_lost column (most_of_rows column (letters name) frames) lost

-- where the next column begins behind these: a gap behind the last one; no picture comes to the bound
abbrev pub next_left : (gap : ℕ) → List Lane → ℕ
next_left gap lanes = fold (λ so_far lane. lane.right + gap) 84 lanes

abbrev pub lane_from : (left letters : ℕ) → Lane
lane_from left letters = record {
  left = min left 18446744073709551615;
  right = min (min left 18446744073709551615 + wide letters + 12) 18446744073709551615;
}

abbrev pub lane_behind : Picture → List Frame → List Lane → Vec ℕ Global → Lane
lane_behind picture frames lanes name =
    lane_from (next_left (gap_of (length picture.columns.items)) lanes) (lane_letters (length lanes) name.items frames picture.lost.items)

-- all columns, from the left
abbrev pub lanes_by : Picture → List Frame → List Lane
lanes_by picture frames = fold (λ lanes name. lanes ++ lane_behind picture frames lanes name ∷ []) [] picture.columns.items

abbrev pub lanes_of : Picture → List Lane
lanes_of picture = lanes_by picture (frames_of picture)

-- a column; past the last one a column of no width where the first one begins
abbrev pub no_lane : Lane
no_lane = record { left = 84; right = 84 }

abbrev pub lane_at : List Lane → (column : ℕ) → Lane
lane_at lanes column = slice_index_or lanes column no_lane
