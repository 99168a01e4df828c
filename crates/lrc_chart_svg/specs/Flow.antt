-- How words fill the box of a row: one behind the other, a letter apart, in lines of so many letters. What is longer than a line has one for
-- itself.
use Rattle.std.specs.Prelude.{ℕ, ◌+◌, ◌*◌, ◌/◌, ◌==◌, List, fold, if◌then◌else◌, length, max, min, nat_le}
use Rattle.lrc_chart_model.specs.declared.picture.Arrow.{Arrow}
use Rattle.lrc_chart_model.specs.declared.picture.Row.{Row}
use Rattle.lrc_chart_svg.specs.declared.flow.Flow.{Flow}

-- how many letters are counted of words: no words of a run come to the bound
abbrev pub letters : List ℕ → ℕ
letters words = min (length words) 4294967295

-- how wide so many letters are, in pixels
abbrev pub wide : (letters : ℕ) → ℕ
wide letters = letters * 73 / 10

-- before any words: on the first line, of which no letter is used
abbrev pub begun : Flow
begun = record { line = 0; used = 0; most = 0 }

-- on which line words of so many letters stand behind others, and how many letters are before them there
abbrev pub line_of : (room : ℕ) → Flow → (count : ℕ) → ℕ
line_of room flow count =
    if flow.used == 0 then flow.line
    else if nat_le (flow.used + 1 + count) room then flow.line
    else min (flow.line + 1) 4294967295

abbrev pub before : (room : ℕ) → Flow → (count : ℕ) → ℕ
before room flow count =
    if flow.used == 0 then 0
    else if nat_le (flow.used + 1 + count) room then flow.used + 1
    else 0

-- how far all of them go then: where there are no words, as far as before
abbrev pub behind : (room : ℕ) → Flow → (count : ℕ) → Flow
behind room flow count =
    if count == 0 then flow
    else record {
      line = line_of room flow count;
      used = before room flow count + count;
      most = max flow.most (before room flow count + count);
    }

-- what was done, the node's time, and invalid pages
abbrev pub done_flow : (room : ℕ) → Row → Flow
done_flow room row = behind room begun (letters row.words.items)

abbrev pub timed_flow : (room : ℕ) → Row → Flow
timed_flow room row = behind room (done_flow room row) (letters row.time.items)

abbrev pub words_flow : (room : ℕ) → Row → Flow
words_flow room row = behind room (timed_flow room row) (letters row.invalid.items)

-- the kind of a message that is taken at this row
abbrev pub label_flow : (room number : ℕ) → Flow → Arrow → Flow
label_flow room number flow arrow = if arrow.to == number then behind room flow (letters arrow.label.items) else flow

abbrev pub labels_flow : (room number : ℕ) → Flow → List Arrow → Flow
labels_flow room number flow arrows = fold (label_flow room number) flow arrows

-- all words of a row: the kinds of the messages that it takes stand behind its own, and its place behind these
abbrev pub kinds_flow : (room number : ℕ) → Row → List Arrow → Flow
kinds_flow room number row arrows = labels_flow room number (words_flow room row) arrows

abbrev pub row_flow : (room number : ℕ) → Row → List Arrow → Flow
row_flow room number row arrows = behind room (kinds_flow room number row arrows) (letters row.place.items)
