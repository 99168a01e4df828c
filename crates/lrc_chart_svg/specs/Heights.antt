-- How far things stand from the top of a picture, in pixels.
use Rattle.std.specs.Prelude.{ℕ, ◌+◌, ◌-◌, ◌*◌, List, decimal, length, max, min, take}
use Rattle.lrc_chart_model.specs.declared.picture.Band.{Band}
use Rattle.lrc_chart_model.specs.declared.picture.Picture.{Picture}
use Rattle.lrc_chart_svg.specs.Frames.{frame_at, rows_foot}
use Rattle.lrc_chart_svg.specs.Plan.{Plan}
use Rattle.lrc_chart_svg.specs.Source.{source_foot}

-- the height of the middle of a row's first line
abbrev pub height : Plan → (row : ℕ) → ℕ
height plan row = (frame_at plan.frames row).top + 8

-- the same in decimal digits
abbrev pub middle : Plan → (row : ℕ) → List ℕ
middle plan row = decimal (height plan row)

-- the foot of words on a line of a box
abbrev pub word_foot : (top line : ℕ) → ℕ
word_foot top line = top + 12 + 13 * line

-- the height of a line below all rows, by how many such lines are above it, and the foot of its words
abbrev pub line_height : Plan → (lines : ℕ) → ℕ
line_height plan lines = rows_foot plan.frames + 20 + 20 * lines

abbrev pub line_foot : Plan → (lines : ℕ) → List ℕ
line_foot plan lines = decimal (line_height plan lines + 4)

-- the top of a barrier's band, above its first row, and how far from there it is to its foot, below its last row and all before it
abbrev pub band_top : Plan → Band → ℕ
band_top plan band = (frame_at plan.frames band.from).top - 4

abbrev pub band_foot : Plan → Band → ℕ
band_foot plan band = rows_foot (take (min (min (band.to + 1) 18446744073709551615) (length plan.frames)) plan.frames) + 4

abbrev pub band_high : Plan → Band → ℕ
band_high plan band = band_foot plan band - band_top plan band

-- where columns begin, and where they end, below the rows and a line for each message that was never taken
abbrev pub columns_top : ℕ
columns_top = 84

abbrev pub columns_foot : Plan → Picture → ℕ
columns_foot plan picture = rows_foot plan.frames + 10 + 20 * length picture.lost.items

-- how high the run is: below the rows is a line for each message that was never taken, for each group of races and for each circle of waiting
abbrev pub run_high : Plan → Picture → ℕ
run_high plan picture = line_height plan (length picture.lost.items + length picture.races.items + length picture.deadlocks.items)

-- how high the whole is: as high as this, and as the program's text
abbrev pub picture_high : Plan → Picture → ℕ
picture_high plan picture = max (run_high plan picture) (source_foot (length picture.source.items))
