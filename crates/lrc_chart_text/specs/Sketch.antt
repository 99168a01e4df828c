-- A picture as text: a line for each turn, with its columns at the left and words behind them.
use Rattle.std.specs.Prelude.{ℕ, ◌==◌, Bool, true, false, List, [], ◌∷◌, ◌++◌, Vec, codes, decimal, if◌then◌else◌, length}
use Rattle.std.specs.declared.alloc.Global.{Global}
use Rattle.std.specs.List.{flat_map}
use Rattle.lrc_chart_model.specs.declared.picture.Arrow.{Arrow}
use Rattle.lrc_chart_model.specs.declared.picture.Band.{Band}
use Rattle.lrc_chart_model.specs.declared.picture.Picture.{Picture}
use Rattle.lrc_chart_model.specs.declared.picture.Race.{Race}
use Rattle.lrc_chart_model.specs.declared.picture.Row.{Row}
use Rattle.lrc_text.specs.Each.{each}
use Rattle.lrc_chart_text.specs.declared.columns.Shape.{Shape}
use Rattle.lrc_chart_text.specs.Columns.{band_margin, bars_margin, name_margin, room_of, row_margin}
use Rattle.lrc_chart_text.specs.Lines.{headed, lines_text, paragraph}
use Rattle.lrc_chart_text.specs.Phrases.{number_of_row, race_name, row_phrases, words_of_row}

-- words that stand beside no column, in lines of this room
abbrev pub loose_lines : (room : ℕ) → (phrases : List (List ℕ)) → List (List ℕ)
loose_lines room phrases = headed [] (codes "  ") (paragraph room phrases)

abbrev pub title_lines : (title : List ℕ) → List (List ℕ)
title_lines title = loose_lines 98 (title ∷ [])

abbrev pub legend_signs : List ℕ
legend_signs = codes "*  act   .  begins to wait   o  messages alone   !  trap   =  at a barrier   -*-  an interval ends"

abbrev pub legend_messages : List ℕ
legend_messages = codes ">N  message N is sent   <N  it is taken   +--->  from sender to taker   again  taken a second time"

abbrev pub legend_others : List ℕ
legend_others = codes ">x  a message that is never taken   race N  an act of that group of races; the groups stand below"

abbrev pub legend_lines : List (List ℕ)
legend_lines = [] ∷ legend_signs ∷ legend_messages ∷ legend_others ∷ [] ∷ []

-- the name of a column, above it
abbrev pub name_lines : (columns : ℕ) → (column : ℕ) → Vec ℕ Global → List (List ℕ)
name_lines columns column name =
    headed (name_margin columns column) (name_margin columns column) (paragraph (room_of columns) (name.items ∷ []))

-- ---- rows

-- an arrow to a row; from a column to itself where none leads there
abbrev pub shape_of : (number : ℕ) → Row → List Arrow → Shape
shape_of number row [] = record { column = row.column; kind = row.kind; closes = row.closes; from = row.column; to = row.column }
shape_of number row (arrow ∷ arrows) =
    if arrow.to == number
    then record { column = row.column; kind = row.kind; closes = row.closes; from = arrow.sender; to = arrow.receiver }
    else shape_of number row arrows

-- a row: what it shows in the columns, and its words
abbrev pub turn_lines : Picture → (number : ℕ) → Row → List (List ℕ)
turn_lines picture number row =
    let columns = length picture.columns.items in
    headed (row_margin columns row.number (shape_of number row picture.arrows.items)) (bars_margin columns)
    (paragraph (room_of columns) (row_phrases picture number row))

-- a barrier, at the first and at the last row at which a node comes to it or leaves it
abbrev pub band_lines : (columns : ℕ) → (end : List ℕ) → Band → List (List ℕ)
band_lines columns end band = headed (band_margin columns) (bars_margin columns) (paragraph (room_of columns) ((band.label.items ++ end) ∷ []))

abbrev pub lines_if : Bool → List (List ℕ) → List (List ℕ)
lines_if true lines = lines
lines_if false lines = []

abbrev pub begin_lines : Picture → (number : ℕ) → List (List ℕ)
begin_lines picture number =
    flat_map (λ band. lines_if (band.from == number) (band_lines (length picture.columns.items) (codes " from here") band)) picture.bands.items

abbrev pub end_lines : Picture → (number : ℕ) → List (List ℕ)
end_lines picture number =
    flat_map (λ band. lines_if (band.to == number) (band_lines (length picture.columns.items) (codes " to here") band)) picture.bands.items

abbrev pub row_lines : Picture → (number : ℕ) → Row → List (List ℕ)
row_lines picture number row = begin_lines picture number ++ turn_lines picture number row ++ end_lines picture number

-- ---- races

abbrev pub race_head : List Row → Race → List ℕ
race_head rows race =
    race_name race.number ++ codes ": row " ++ decimal (number_of_row rows race.from) ++ codes " and row " ++ decimal (number_of_row rows race.to)

abbrev pub race_lines : List Row → Race → List (List ℕ)
race_lines rows race =
    loose_lines 98 (race_head rows race ∷ words_of_row rows race.from ∷ words_of_row rows race.to ∷ race.label.items ∷ race.hint.items ∷ [])

abbrev pub all_race_lines : List Row → List Race → List (List ℕ)
all_race_lines rows [] = []
all_race_lines rows (race ∷ races) = [] ∷ flat_map (race_lines rows) (race ∷ races)

-- ---- circles of waiting

abbrev pub deadlock_lines : Vec ℕ Global → List (List ℕ)
deadlock_lines words = loose_lines 98 (words.items ∷ [])

abbrev pub all_deadlock_lines : List (Vec ℕ Global) → List (List ℕ)
all_deadlock_lines [] = []
all_deadlock_lines (words ∷ more) = [] ∷ flat_map deadlock_lines (words ∷ more)

-- ---- all of it

-- below the rows
abbrev pub foot_lines : Picture → List (List ℕ)
foot_lines picture = all_race_lines picture.rows.items picture.races.items ++ all_deadlock_lines picture.deadlocks.items

abbrev pub sketch_lines : Picture → List (List ℕ)
sketch_lines picture =
    title_lines picture.title.items ++ legend_lines ++ each (name_lines (length picture.columns.items)) picture.columns.items
    ++ each (row_lines picture) picture.rows.items ++ foot_lines picture

abbrev pub sketch_text : Picture → List ℕ
sketch_text picture = lines_text (sketch_lines picture)
