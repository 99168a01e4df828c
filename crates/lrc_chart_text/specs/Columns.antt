-- The columns of nodes, and what a row shows in them.
use Rattle.std.specs.Prelude.{ℕ, ◌==◌, ◌-◌, ◌*◌, ◌&&◌, ◌||◌, Bool, List}
use Rattle.std.specs.Prelude.{◌∷◌, ◌++◌, codes, decimal, if◌then◌else◌, length, nat_le, nat_lt, replicate}
use Rattle.std.specs.List.{flat_map, range_with_len}
use Rattle.lrc_chart_model.specs.declared.picture.Kind.{Kind}
use Rattle.lrc_chart_model.specs.declared.picture.Kind.TheVariants.{Act, Wait, Message, Trap, Barrier}
use Rattle.lrc_chart_text.specs.declared.columns.Shape.{Shape}

-- how many signs a column has, of so many columns
abbrev pub width_of : (columns : ℕ) → ℕ
width_of columns = if nat_le columns 4 then 8 else if nat_le columns 8 then 5 else 3

-- How many signs words have behind them: with a row's number, 16 columns and a blank these are 100.
abbrev pub room_of : (columns : ℕ) → ℕ
room_of columns = if nat_le columns 16 then 93 - columns * width_of columns else 45

-- columns in which nothing is shown
abbrev pub bar : (width : ℕ) → List ℕ
bar width = codes " |" ++ replicate (width - 2) 32

abbrev pub bars : (width columns : ℕ) → List ℕ
bars width columns = flat_map (λ column. bar width) (range_with_len 0 columns)

-- the sign of a turn
abbrev pub sign_of : Kind → ℕ
sign_of Act = 42
sign_of Wait = 46
sign_of Message = 111
sign_of Trap = 33
sign_of Barrier = 61

-- whether an arrow between two columns passes a column's left side, and its right side
abbrev pub passes_left : (from to column : ℕ) → Bool
passes_left from to column = (nat_lt from column && nat_le column to) || (nat_lt to column && nat_le column from)

abbrev pub passes_right : (from to column : ℕ) → Bool
passes_right from to column = (nat_le from column && nat_lt column to) || (nat_le to column && nat_lt column from)

-- an arrow's line, or its head
abbrev pub arrow_sign : (head to column : ℕ) → ℕ
arrow_sign head to column = if column == to then head else 45

-- beside a turn that closes an interval stands a rule
abbrev pub rule_sign : Shape → (column : ℕ) → ℕ
rule_sign shape column = if (column == shape.column) && shape.closes then 45 else 32

abbrev pub left_sign : Shape → (column : ℕ) → ℕ
left_sign shape column =
    if passes_left shape.from shape.to column then arrow_sign 62 shape.to column else rule_sign shape column

abbrev pub middle_sign : Shape → (column : ℕ) → ℕ
middle_sign shape column = if column == shape.column then sign_of shape.kind else if column == shape.from then 43 else 124

abbrev pub right_sign : Shape → (column : ℕ) → ℕ
right_sign shape column =
    if passes_right shape.from shape.to column then arrow_sign 60 shape.to column else rule_sign shape column

-- between this column and the next one
abbrev pub between_sign : Shape → (column : ℕ) → ℕ
between_sign shape column = if passes_right shape.from shape.to column then 45 else 32

abbrev pub cell : (width : ℕ) → Shape → (column : ℕ) → List ℕ
cell width shape column =
    left_sign shape column ∷ middle_sign shape column ∷ right_sign shape column ∷ replicate (width - 3) (between_sign shape column)

-- what a row shows in its columns
abbrev pub cells : (width columns : ℕ) → Shape → List ℕ
cells width columns shape = flat_map (cell width shape) (range_with_len 0 columns)

-- ---- margins

-- a number in four columns, or in as many as it needs, and two blanks
abbrev pub number_text : ℕ → List ℕ
number_text n = replicate (4 - length (decimal n)) 32 ++ decimal n ++ codes "  "

-- before the first line of a row, with its number
abbrev pub row_margin : (columns number : ℕ) → Shape → List ℕ
row_margin columns number shape = number_text number ++ cells (width_of columns) columns shape ++ codes " "

-- before each further one
abbrev pub bars_margin : (columns : ℕ) → List ℕ
bars_margin columns = codes "      " ++ bars (width_of columns) columns ++ codes " "

-- before the name of a column
abbrev pub name_margin : (columns column : ℕ) → List ℕ
name_margin columns column = codes "      " ++ bars (width_of columns) column ++ codes " "

-- a barrier, across all columns
abbrev pub band_margin : (columns : ℕ) → List ℕ
band_margin columns = codes "      " ++ flat_map (λ column. replicate (width_of columns) 61) (range_with_len 0 columns) ++ codes " "
