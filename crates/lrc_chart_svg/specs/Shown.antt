-- What a picture shows, in order: the title, the legend, barriers, columns, messages, races, rows, the kinds of messages that were never taken,
-- and circles of waiting, and the program's text. Each row, each message and each group of races is one element with one hint, each of the latter with one straight
-- line, between the heights of its rows, and a sign at each end of it. A message that is taken again is dashed, one that is never taken ends in
-- a cross, and a row's box has the border of its kind, and stands in the column of its node. The number of a group of races stands at both ends
-- of its line and before its words. A barrier's band goes from its first row to its last, and across the picture. Below all these is the
-- ground, as large as the picture.
use Rattle.std.specs.Prelude.{ℕ, ◌+◌, ◌-◌, ◌*◌, ◌/◌, ◌==◌, Bool, true, false, List, [], ◌∷◌, ◌++◌, codes, decimal, if◌then◌else◌, length, nat_lt, take, Vec}
use Rattle.std.specs.declared.alloc.Global.{Global}
use Rattle.std.specs.List.{flat_map}
use Rattle.lrc_text.specs.Each.{each}
use Rattle.lrc_chart_model.specs.declared.picture.Arrow.{Arrow}
use Rattle.lrc_chart_model.specs.declared.picture.Band.{Band}
use Rattle.lrc_chart_model.specs.declared.picture.Kind.{Kind}
use Rattle.lrc_chart_model.specs.declared.picture.Kind.TheVariants as kinds
use Rattle.lrc_chart_model.specs.declared.picture.Lost.{Lost}
use Rattle.lrc_chart_model.specs.declared.picture.Picture.{Picture}
use Rattle.lrc_chart_model.specs.declared.picture.Race.{Race}
use Rattle.lrc_chart_model.specs.declared.picture.Row.{Row}
use Rattle.lrc_chart_model.specs.declared.picture.SourceLine.{SourceLine}
use Rattle.lrc_chart_svg.specs.declared.flow.Flow.{Flow}
use Rattle.lrc_chart_svg.specs.declared.style.Anchor.{Anchor}
use Rattle.lrc_chart_svg.specs.declared.style.Anchor.TheVariants.{Start, End}
use Rattle.lrc_chart_svg.specs.Attributes.{anchor_word}
use Rattle.lrc_chart_svg.specs.Flow.{before, begun, done_flow, kinds_flow, letters, line_of, timed_flow, wide}
use Rattle.lrc_chart_svg.specs.Frames.{frame_at}
use Rattle.lrc_chart_svg.specs.Heights.{band_high, band_top, columns_foot, columns_top, height, line_foot, line_height, middle, picture_high, word_foot}
use Rattle.lrc_chart_svg.specs.Marks.{Mark, begins, box, ends, hint, path, stroke, word}
use Rattle.lrc_chart_svg.specs.Plan.{Plan, plan_of}
use Rattle.lrc_chart_svg.specs.Rooms.{room_of}
use Rattle.lrc_chart_svg.specs.Sizes.{base_wide, picture_wide}
use Rattle.lrc_chart_svg.specs.Source.{blanks, source_foot, source_wide}
use Rattle.lrc_chart_svg.specs.Ways.{beside, beside_anchor, beyond, beyond_anchor, end_side, head, left, right, start_side, tail}

-- the dashes of a line that runs through, and of a message
abbrev pub through : List ℕ
through = codes "none"

abbrev pub message_dashes : (again : Bool) → List ℕ
message_dashes true = codes "6 4"
message_dashes false = through

-- an area with no border, and one with a thin one
abbrev pub unframed : (left top wide high : ℕ) → Mark
unframed left top wide high = box (decimal left) (decimal top) (decimal wide) (decimal high) (codes "0") through

abbrev pub framed : (left top wide high : ℕ) → Mark
framed left top wide high = box (decimal left) (decimal top) (decimal wide) (decimal high) (codes "1") through

-- words that begin so far from the left
abbrev pub words_from : (left : ℕ) → (foot : List ℕ) → List ℕ → Mark
words_from left foot words = word (decimal left) foot (anchor_word Start) words

-- the border of a row's box, by its kind: those of an act and of messages alone differ in their colours
abbrev pub row_border : Kind → List ℕ
row_border kinds.Act = codes "1"
row_border kinds.Wait = codes "1.5"
row_border kinds.Message = codes "1"
row_border kinds.Trap = codes "3"
row_border kinds.Barrier = codes "2"

abbrev pub row_dashes : Kind → List ℕ
row_dashes kinds.Wait = codes "3 3"
row_dashes other = through

abbrev pub row_box : (left top wide high : ℕ) → Kind → Mark
row_box left top wide high kind =
    box (decimal left) (decimal top) (decimal wide) (decimal high) (row_border kind) (row_dashes kind)

-- the strokes by which an arrow leaves a box: to the left for a column there
abbrev pub leaving : (sender receiver : ℕ) → List ℕ
leaving sender receiver = if nat_lt receiver sender then codes "h8" else codes "h-8"

-- those of its head: from the left, from the right, or from a column to itself
abbrev pub coming : (sender receiver : ℕ) → List ℕ
coming sender receiver =
    if nat_lt sender receiver then codes "h12 l-9 -4 v8 l9 -4"
    else if nat_lt receiver sender then codes "h-12 l9 -4 v8 l-9 -4"
    else codes "h-8 l8 -4 v8 l-8 -4"

-- the cross at the end of a message that was never taken, and what stands at both ends of a group of races
abbrev pub cross : List ℕ
cross = codes "m-5 -5 l10 10 m-10 0 l10 -10"

abbrev pub knot : List ℕ
knot = codes "m-5 -5 h10 v10 h-10 z"

-- names of boxes and lines
abbrev named : (left : ℕ) → List ℕ → List Mark
named left name = words_from (left + 34) (decimal 48) name ∷ []

abbrev pub sample : (left : ℕ) → Kind → List ℕ → List Mark
sample left kind name = row_box left 38 28 12 kind ∷ named left name

abbrev pub line : (left : ℕ) → (strokes dashes : List ℕ) → List ℕ → List Mark
line left strokes dashes name = path (decimal left) (decimal 44) strokes dashes ∷ named left name

abbrev pub samples_named : List Mark
samples_named =
    sample 8 kinds.Act (codes "act") ++ sample 80 kinds.Wait (codes "waits") ++ sample 167 kinds.Message (codes "messages alone")
    ++ sample 320 kinds.Trap (codes "trap") ++ sample 400 kinds.Barrier (codes "barrier")

abbrev pub lines_named : List Mark
lines_named =
    line 502 (codes "h28") through (codes "interval ends") ++ line 648 (codes "h28") (message_dashes false) (codes "message")
    ++ line 750 (codes "h28") (message_dashes true) (codes "taken again")
    ++ line 881 (codes "h23 m-5 -5 l10 10 m-10 0 l10 -10") (message_dashes false) (codes "never taken")
    ++ line 1012 (codes "m0 -4 v8 m0 -4 h28 m0 -4 v8") through (codes "race")

abbrev pub signs_named : List Mark
signs_named = samples_named ++ lines_named

-- what stands in a box, in order
abbrev pub told : (left : ℕ) → List ℕ → List Mark
told left name = words_from left (decimal 68) name ∷ []

abbrev pub words_named : List Mark
words_named =
    told 8 (codes "in a box:") ++ told 90 (codes "what was done") ++ told 205 (codes "the node's time")
    ++ told 335 (codes "pages now invalid") ++ told 480 (codes "line and interval")

abbrev pub legend_marks : List Mark
legend_marks = signs_named ++ words_named

-- a column between these sides, down to its foot, and its head with its name
abbrev pub column_between : (left right foot : ℕ) → Vec ℕ Global → List Mark
column_between left right foot name =
    framed left columns_top (right - left) (foot - columns_top) ∷ framed left columns_top (right - left) 20
    ∷ words_from (left + 6) (decimal 98) name.items ∷ []

abbrev pub column_marks : Plan → (foot : ℕ) → ℕ → Vec ℕ Global → List Mark
column_marks plan foot column name = column_between (left plan column) (right plan column) foot name

-- a barrier's band is as wide as the picture
abbrev pub band_marks : Plan → (wide : ℕ) → Band → List Mark
band_marks plan wide band =
    framed 0 (band_top plan band) wide (band_high plan band)
    ∷ words_from 8 (decimal ((frame_at plan.frames band.from).top + 12)) band.label.items ∷ []

-- ---- rows

-- below the box of a row that closes an interval is another one
abbrev pub rule_marks : (left top wide : ℕ) → (closes : Bool) → List Mark
rule_marks left top wide true = unframed left top wide 3 ∷ []
rule_marks left top wide false = []

-- around the box of a row in a circle of waiting is another one
abbrev pub circle_marks : (left top wide high : ℕ) → (circled : Bool) → List Mark
circle_marks left top wide high true =
    box (decimal (left - 4)) (decimal (top - 4)) (decimal (wide + 8)) (decimal (high + 8)) (codes "3") through ∷ []
circle_marks left top wide high false = []

-- the box of a row, the rule below it, and the border around it
abbrev pub frame_marks : (left top wide high : ℕ) → Kind → (closes circled : Bool) → List Mark
frame_marks left top wide high kind closes circled =
    row_box left top wide high kind ∷ (rule_marks left (top + high) wide closes ++ circle_marks left top wide high circled)

-- words in a box behind others, if there are any
abbrev pub phrase : (left top room : ℕ) → Flow → List ℕ → List Mark
phrase left top room flow words =
    if length words == 0 then []
    else words_from (left + 6 + wide (before room flow (letters words))) (decimal (word_foot top (line_of room flow (letters words)))) words ∷ []

-- words that end where the box does
abbrev pub last_phrase : (right top room : ℕ) → Flow → List ℕ → List Mark
last_phrase right top room flow words =
    if length words == 0 then []
    else word (decimal (right - 6)) (decimal (word_foot top (line_of room flow (letters words)))) (anchor_word End) words ∷ []

-- what was done, the node's time behind it, and invalid pages
abbrev pub own_words : (left top room : ℕ) → Row → List Mark
own_words left top room row =
    phrase left top room begun row.words.items ++ phrase left top room (done_flow room row) row.time.items
    ++ phrase left top room (timed_flow room row) row.invalid.items

-- the kind of a message, if it is taken at this row, behind other words
abbrev pub kind_behind : (left top room : ℕ) → (number : ℕ) → Flow → Arrow → List Mark
kind_behind left top room number flow arrow = if arrow.to == number then phrase left top room flow arrow.label.items else []

-- the same behind the row's own words and the kinds before it
abbrev pub kind_mark : (left top room : ℕ) → (number : ℕ) → Row → List Arrow → (place : ℕ) → Arrow → List Mark
kind_mark left top room number row arrows place arrow = kind_behind left top room number (kinds_flow room number row (take place arrows)) arrow

abbrev pub row_kinds : (left top room : ℕ) → (number : ℕ) → Row → List Arrow → List Mark
row_kinds left top room number row arrows = each (kind_mark left top room number row arrows) arrows

-- all words of a row: behind these the place
abbrev pub row_words : (left right top room : ℕ) → (number : ℕ) → Row → List Arrow → List Mark
row_words left right top room number row arrows =
    own_words left top room row ++ row_kinds left top room number row arrows
    ++ last_phrase right top room (kinds_flow room number row arrows) row.place.items

-- a row stands in the column of its node: its box, and its words
abbrev pub row_box_marks : Plan → (number : ℕ) → Row → List Mark
row_box_marks plan number row =
    let frame = frame_at plan.frames number in
    frame_marks (left plan row.column) frame.top (right plan row.column - left plan row.column) frame.high row.kind row.closes row.circled

abbrev pub row_word_marks : Plan → List Arrow → (number : ℕ) → Row → List Mark
row_word_marks plan arrows number row =
    row_words (left plan row.column) (right plan row.column) (frame_at plan.frames number).top (room_of (length plan.lanes)) number row arrows

abbrev pub row_marks_at : Plan → List Arrow → (number : ℕ) → Row → List Mark
row_marks_at plan arrows number row =
    begins ∷ hint row.hint.items ∷ (row_box_marks plan number row ++ row_word_marks plan arrows number row ++ ends ∷ [])

-- ---- messages

-- an arrow leads from the column of the sender to that of the receiver
abbrev pub arrow_marks : Plan → Arrow → List Mark
arrow_marks plan arrow =
    let from_left = decimal (tail plan arrow.sender arrow.receiver) in
    let to_left = decimal (head plan arrow.sender arrow.receiver) in
    begins ∷ hint arrow.hint.items
    ∷ stroke from_left (middle plan arrow.from) to_left (middle plan arrow.to) (message_dashes arrow.again)
    ∷ path from_left (middle plan arrow.from) (leaving arrow.sender arrow.receiver) through
    ∷ path to_left (middle plan arrow.to) (coming arrow.sender arrow.receiver) through ∷ ends ∷ []

-- a message that was never taken ends below the rows, at a line of its own
abbrev pub lost_marks : Plan → ℕ → Lost → List Mark
lost_marks plan place lost =
    let from_left = decimal (tail plan lost.sender lost.receiver) in
    let to_left = decimal (head plan lost.sender lost.receiver) in
    let end = decimal (line_height plan place) in
    begins ∷ hint lost.hint.items ∷ stroke from_left (middle plan lost.from) to_left end through
    ∷ path from_left (middle plan lost.from) (leaving lost.sender lost.receiver) through ∷ path to_left end cross through ∷ ends ∷ []

abbrev pub lost_label : Plan → ℕ → Lost → List Mark
lost_label plan place lost =
    word (decimal (beyond plan lost.sender lost.receiver)) (line_foot plan place) (anchor_word (beyond_anchor lost.sender lost.receiver))
    lost.label.items ∷ []

-- ---- races

-- where an area behind words begins that is so wide
abbrev pub plate_left : Anchor → (left wide : ℕ) → ℕ
plate_left Start left wide = left - 2
plate_left End left wide = left - (wide - 2)

-- words on an area that is 4 pixels wider, and goes from 10 pixels above their foot to 3 below it
abbrev pub plated : Anchor → (left foot : ℕ) → List ℕ → List Mark
plated anchor left foot words =
    unframed (plate_left anchor left (wide (length words) + 4)) (foot - 10) (wide (length words) + 4) 13
    ∷ word (decimal left) (decimal foot) (anchor_word anchor) words ∷ []

-- a line with a knot at each end
abbrev pub knotted : (from_left from to_left to : List ℕ) → List Mark
knotted from_left from to_left to =
    stroke from_left from to_left to through ∷ path from_left from knot through ∷ path to_left to knot through ∷ []

abbrev pub race_name : (number : ℕ) → List ℕ
race_name number = codes "race " ++ decimal number

-- the number of a group of races beside both ends of its line: above the end where it begins, and below the other one
abbrev pub race_ends : Plan → (from first to second : ℕ) → (name : List ℕ) → List Mark
race_ends plan from first to second name =
    plated (beside_anchor second first) (beside plan second first) (height plan from - 6) name
    ++ plated (beside_anchor first second) (beside plan first second) (height plan to + 15) name

-- the same before its words, on a line below the rows, which has this foot
abbrev pub race_words : (foot : List ℕ) → (name words : List ℕ) → List Mark
race_words foot name words = word (decimal 78) foot (anchor_word End) name ∷ words_from 84 foot words ∷ []

-- a group of races leads from the column of its first act to that of its second; its words stand below all that, on a line of their own
abbrev pub race_marks : Plan → (used : ℕ) → ℕ → Race → List Mark
race_marks plan used place race =
    begins ∷ hint race.hint.items
    ∷ (knotted (decimal (start_side plan race.first race.second)) (middle plan race.from)
    (decimal (end_side plan race.first race.second)) (middle plan race.to)
    ++ race_ends plan race.from race.first race.to race.second (race_name race.number)
    ++ race_words (line_foot plan (used + place)) (race_name race.number) race.label.items ++ ends ∷ [])

-- a circle of waiting, on a line below the rows and what is used there
abbrev pub deadlock_marks : Plan → (used : ℕ) → ℕ → Vec ℕ Global → List Mark
deadlock_marks plan used place words = words_from 8 (line_foot plan (used + place)) words.items ∷ []

-- ---- the program's text

-- around a line that an act of the rows shown is of, is a box
abbrev pub line_box : (left foot wide : ℕ) → (marked : Bool) → List Mark
line_box left foot wide true = framed (left + 4) (foot - 12) (wide - 8) 16 ∷ []
line_box left foot wide false = []

-- a line with its number before it, behind as many blanks as it begins with
abbrev pub line_words : (left foot place : ℕ) → (words : List ℕ) → List Mark
line_words left foot place words =
    word (decimal (left + 44)) (decimal foot) (anchor_word End) (decimal (place + 1))
    ∷ words_from (left + 54 + blanks words * 73 / 10) (decimal foot) words ∷ []

abbrev pub source_marks : (left wide : ℕ) → (place : ℕ) → SourceLine → List Mark
source_marks left wide place line =
    line_box left (source_foot place) wide line.marked ++ line_words left (source_foot place) place line.words.items

-- ---- all of it

-- barriers, and columns over them
abbrev pub ground_marks : Plan → (wide foot : ℕ) → Picture → List Mark
ground_marks plan wide foot picture =
    flat_map (band_marks plan wide) picture.bands.items ++ each (column_marks plan foot) picture.columns.items

-- lines, and rows over them, behind each of which a line goes on unseen
abbrev pub run_marks : Plan → Picture → List Mark
run_marks plan picture =
    flat_map (arrow_marks plan) picture.arrows.items ++ each (lost_marks plan) picture.lost.items
    ++ each (race_marks plan (length picture.lost.items)) picture.races.items
    ++ each (row_marks_at plan picture.arrows.items) picture.rows.items

-- the kinds of messages that were never taken, and circles of waiting
abbrev pub foot_marks : Plan → Picture → List Mark
foot_marks plan picture =
    each (lost_label plan) picture.lost.items
    ++ each (deadlock_marks plan (length picture.lost.items + length picture.races.items)) picture.deadlocks.items

-- these, and the program's text to the right of all else
abbrev pub side_marks : Plan → (left : ℕ) → Picture → List Mark
side_marks plan left picture =
    foot_marks plan picture ++ each (source_marks left (source_wide picture.source.items)) picture.source.items

-- the ground and the title
abbrev pub title_marks : (wide high : ℕ) → List ℕ → List Mark
title_marks wide high title = unframed 0 0 wide high ∷ words_from 8 (decimal 24) title ∷ []

-- all of it, by where columns and rows stand, by how wide and how high it is, by where its columns end, and by where the program's text begins
abbrev pub marks_by : Plan → (wide high foot left : ℕ) → Picture → List Mark
marks_by plan wide high foot left picture =
    title_marks wide high picture.title.items
    ++ legend_marks ++ ground_marks plan wide foot picture ++ run_marks plan picture ++ side_marks plan left picture

abbrev pub picture_marks : Picture → List Mark
picture_marks picture =
    let plan = plan_of picture in
    marks_by plan (picture_wide plan picture) (picture_high plan picture) (columns_foot plan picture) (base_wide plan picture) picture
