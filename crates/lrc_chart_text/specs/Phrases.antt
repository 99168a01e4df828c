-- What is said of a row behind its columns.
use Rattle.std.specs.Prelude.{ℕ, ◌+◌, ◌-◌, ◌==◌, ◌||◌, Bool, true, false, List, []}
use Rattle.std.specs.Prelude.{◌∷◌, ◌++◌, Vec, codes, decimal, length, map, replicate, slice_index_or}
use Rattle.std.specs.declared.alloc.Global.{Global}
use Rattle.std.specs.List.{flat_map}
use Rattle.lrc_chart_model.specs.declared.picture.Arrow.{Arrow}
use Rattle.lrc_chart_model.specs.declared.picture.Lost.{Lost}
use Rattle.lrc_chart_model.specs.declared.picture.Picture.{Picture}
use Rattle.lrc_chart_model.specs.declared.picture.Row.{Row}
use Rattle.lrc_text.specs.Each.{each}
use Rattle.lrc_text.specs.Parts.{texts_of}

-- the name of a column, and the words of a row; none past the last one
abbrev pub name_of_column : List (Vec ℕ Global) → (column : ℕ) → List ℕ
name_of_column columns column = slice_index_or (texts_of columns) column []

abbrev pub words_of_row : List Row → (number : ℕ) → List ℕ
words_of_row rows number = slice_index_or (map (λ row. row.words.items) rows) number []

-- the number of a row that is to be shown; past the last one its place
abbrev pub number_of_row : List Row → (place : ℕ) → ℕ
number_of_row rows place = slice_index_or (map (λ row. row.number) rows) place place

-- a phrase, if there is one
abbrev pub only_if : Bool → List ℕ → List (List ℕ)
only_if true phrase = phrase ∷ []
only_if false phrase = []

-- the words of a row, wide enough that places stand below each other
abbrev pub padded_words : (words place : List ℕ) → List ℕ
padded_words words [] = words
padded_words words (sign ∷ place) = words ++ replicate (16 - length words) 32

abbrev pub turn_phrases : Row → List (List ℕ)
turn_phrases row = padded_words row.words.items row.place.items ∷ row.place.items ∷ row.time.items ∷ row.invalid.items ∷ []

-- ---- messages, numbered from 1

abbrev pub again_text : Bool → List ℕ
again_text true = codes " again"
again_text false = []

abbrev pub arrow_phrase : (sign : List ℕ) → (position : ℕ) → Arrow → List ℕ
arrow_phrase sign position arrow = sign ++ decimal (position + 1) ++ codes " " ++ arrow.label.items ++ again_text arrow.again

abbrev pub taken_phrase : (position : ℕ) → Arrow → List ℕ
taken_phrase position arrow = arrow_phrase (codes "<") position arrow

abbrev pub sent_phrase : List (Vec ℕ Global) → (position : ℕ) → Arrow → List ℕ
sent_phrase columns position arrow = arrow_phrase (codes ">") position arrow ++ codes " to " ++ name_of_column columns arrow.receiver

abbrev pub lost_phrase : List (Vec ℕ Global) → Lost → List ℕ
lost_phrase columns lost = codes ">x " ++ lost.label.items ++ codes " to " ++ name_of_column columns lost.receiver ++ codes ", never taken"

-- the messages that a row takes, that it sends, and those of them that are never taken
abbrev pub taken_phrases : Picture → (number : ℕ) → List (List ℕ)
taken_phrases picture number = each (λ position arrow. only_if (arrow.to == number) (taken_phrase position arrow)) picture.arrows.items

abbrev pub sent_phrases : Picture → (number : ℕ) → List (List ℕ)
sent_phrases picture number =
    each (λ position arrow. only_if (arrow.from == number) (sent_phrase picture.columns.items position arrow)) picture.arrows.items

abbrev pub lost_phrases : Picture → (number : ℕ) → List (List ℕ)
lost_phrases picture number = flat_map (λ lost. only_if (lost.from == number) (lost_phrase picture.columns.items lost)) picture.lost.items

-- ---- races and circles of waiting

abbrev pub race_name : (number : ℕ) → List ℕ
race_name number = codes "race " ++ decimal number

-- the groups of races of which the row has an act
abbrev pub race_phrases : Picture → (number : ℕ) → List (List ℕ)
race_phrases picture number =
    flat_map (λ race. only_if ((race.from == number) || (race.to == number)) (race_name race.number)) picture.races.items

-- a row in a circle of waiting
abbrev pub circle_phrases : Row → List (List ℕ)
circle_phrases row = only_if row.circled (codes "deadlock")

-- ---- all of these

abbrev pub row_phrases : Picture → (number : ℕ) → Row → List (List ℕ)
row_phrases picture number row =
    turn_phrases row ++ taken_phrases picture number ++ sent_phrases picture number ++ lost_phrases picture number ++ race_phrases picture number
    ++ circle_phrases row
