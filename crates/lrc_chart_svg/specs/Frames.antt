-- Where rows stand, from the top. Each stands as high as it can below all rows before it.
use Rattle.std.specs.Prelude.{ℕ, ◌+◌, ◌*◌, ◌==◌, ◌||◌, Bool, false, List, [], ◌∷◌, ◌++◌, fold, if◌then◌else◌, length, max, min, slice_index_or}
use Rattle.std.specs.List.{list_any}
use Rattle.lrc_chart_model.specs.declared.picture.Arrow.{Arrow}
use Rattle.lrc_chart_model.specs.declared.picture.Band.{Band}
use Rattle.lrc_chart_model.specs.declared.picture.Lost.{Lost}
use Rattle.lrc_chart_model.specs.declared.picture.Picture.{Picture}
use Rattle.lrc_chart_model.specs.declared.picture.Row.{Row}
use Rattle.lrc_chart_svg.specs.declared.flow.Flow.{Flow}
use Rattle.lrc_chart_svg.specs.declared.frames.Frame.{Frame}
use Rattle.lrc_chart_svg.specs.Flow.{row_flow}
use Rattle.lrc_chart_svg.specs.Rooms.{room_of}

-- whether an arrow begins or ends at a row, and whether a barrier's band begins at it or ended at the one before
abbrev pub arrow_touches : (number : ℕ) → Arrow → Bool
arrow_touches number arrow = (arrow.from == number) || (arrow.to == number)

abbrev pub lost_touches : (number : ℕ) → Lost → Bool
lost_touches number lost = lost.from == number

abbrev pub is_busy : Picture → (number : ℕ) → Bool
is_busy picture number = list_any (arrow_touches number) picture.arrows.items || list_any (lost_touches number) picture.lost.items

abbrev pub band_parts : (number : ℕ) → Band → Bool
band_parts number band = (band.from == number) || (band.to + 1 == number)

abbrev pub is_parted : (number : ℕ) → List Band → Bool
is_parted number bands = list_any (band_parts number) bands

-- how high a box is with words on lines up to this one, counted from 0
abbrev pub box_high : (line : ℕ) → ℕ
box_high line = 13 * line + 17

-- how far a row is at least below another, from top to top: below its box where a band begins or ends between them, or both are of one
-- column; else closer, and closest where no arrow begins or ends at either
abbrev pub apart : (above : Frame) → (column : ℕ) → (busy parted : Bool) → ℕ
apart above column busy parted =
    if parted then above.high + 10
    else if above.column == column then above.high + 5
    else if above.busy || busy then 12
    else 8

-- the top of the first row's box, and of one below others: the least that is so far below each; no picture comes to the bound
abbrev pub first_top : ℕ
first_top = 112

abbrev pub least_top : List Frame → (column : ℕ) → (busy parted : Bool) → ℕ
least_top above column busy parted = fold (λ top frame. max top (frame.top + apart frame column busy parted)) first_top above

abbrev pub top_below : List Frame → (column : ℕ) → (busy parted : Bool) → ℕ
top_below above column busy parted = min (least_top above column busy parted) 18446744073709551615

-- a row's box below others, which are all rows before it
abbrev pub frame_of : Picture → (above : List Frame) → Flow → Row → Frame
frame_of picture above flow row = record {
  column = row.column;
  top = top_below above row.column (is_busy picture (length above)) (is_parted (length above) picture.bands.items);
  high = box_high flow.line;
  letters = flow.most;
  busy = is_busy picture (length above);
}

abbrev pub frame_below : Picture → (above : List Frame) → Row → Frame
frame_below picture above row =
    frame_of picture above (row_flow (room_of (length picture.columns.items)) (length above) row picture.arrows.items) row

-- all boxes, from the top
abbrev pub frames_of : Picture → List Frame
frames_of picture = fold (λ above row. above ++ frame_below picture above row ∷ []) [] picture.rows.items

-- the box of a row; past the last row as a first one's
abbrev pub no_frame : Frame
no_frame = record { column = 0; top = 112; high = 17; letters = 0; busy = false }

abbrev pub frame_at : List Frame → (number : ℕ) → Frame
frame_at frames number = slice_index_or frames number no_frame

-- the lowest foot of these boxes
abbrev pub rows_foot : List Frame → ℕ
rows_foot frames = fold (λ foot frame. max foot (frame.top + frame.high)) first_top frames
