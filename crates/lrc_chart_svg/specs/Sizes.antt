-- How wide a whole picture is.
use Rattle.std.specs.Prelude.{ℕ, ◌+◌, fold, length, max}
use Rattle.lrc_chart_model.specs.declared.picture.Picture.{Picture}
use Rattle.lrc_chart_svg.specs.Flow.{letters, wide}
use Rattle.lrc_chart_svg.specs.Plan.{Plan}
use Rattle.lrc_chart_svg.specs.Rooms.{gap_of}
use Rattle.lrc_chart_svg.specs.Source.{source_wide}
use Rattle.lrc_chart_svg.specs.Widths.{next_left}

-- the most letters of a group of races, and of these and a circle of waiting
abbrev pub most_of_races : Picture → ℕ
most_of_races picture = fold (λ most race. max most (letters race.label.items)) 0 picture.races.items

abbrev pub most_below : Picture → ℕ
most_below picture = fold (λ most words. max most (letters words.items)) (most_of_races picture) picture.deadlocks.items

-- where what stands below the rows ends at most, and the title, each with a margin, and the legend
abbrev pub words_right : Picture → ℕ
words_right picture = wide (most_below picture) + 100

abbrev pub title_right : Picture → ℕ
title_right picture = wide (length picture.title.items) + 16

abbrev pub legend_wide : ℕ
legend_wide = 1092

-- how wide it is without the program's text: there is room for these, and for each column and the gap behind it
abbrev pub base_wide : Plan → Picture → ℕ
base_wide plan picture =
    max (max (next_left (gap_of (length picture.columns.items)) plan.lanes) (max (words_right picture) (title_right picture))) legend_wide

-- how wide the whole is: the program's text stands to the right of all else
abbrev pub picture_wide : Plan → Picture → ℕ
picture_wide plan picture = base_wide plan picture + source_wide picture.source.items
