-- Races in words.
use Rattle.std.specs.Prelude.{ℕ, Option, Some, None, List, [], ◌++◌, codes, decimal}
use Rattle.std.specs.List.{flat_map}
use Rattle.lrc_trace.specs.declared.race.Race.{Race}

-- the line of a race, and those of races
abbrev pub race_line : Race → List ℕ
race_line race = codes "race word " ++ decimal race.word ++ codes ": node " ++ decimal race.node_a ++ codes " interval " ++ decimal race.interval_a
    ++ codes ", node " ++ decimal race.node_b ++ codes " interval " ++ decimal race.interval_b ++ codes "\n"

abbrev pub races_text : List Race → List ℕ
races_text races = flat_map race_line races

-- the last line of a run with a race: the least position that races with an earlier one
abbrev pub first_race_text : Option ℕ → List ℕ
first_race_text None = []
first_race_text (Some position) = codes "first race at act " ++ decimal position ++ codes "\n"
