-- The lines in which a judge of acts tells what it found.
use Rattle.std.specs.Prelude.{ℕ, Bool, true, false, List, [], ◌∷◌, ◌++◌, codes, decimal}
use Rattle.std.specs.List.{flat_map}
use Rattle.lrc_acts.specs.declared.judge_lines.Place.{Place}
use Rattle.lrc_acts.specs.declared.judge_lines.RacingAccesses.{RacingAccesses}

-- where an act stands: its position, and its line
abbrev pub place_text : Place → List ℕ
place_text place = codes " at act " ++ decimal place.position ++ codes ", line " ++ decimal place.line

-- acts that are well synchronized, and the first that is not
abbrev pub synchronized_line : List ℕ
synchronized_line = codes "well synchronized\n"

abbrev pub unsynchronized_line : Place → List ℕ
unsynchronized_line place = codes "not well synchronized" ++ place_text place ++ codes "\n"

-- values, parted by a comma and a space
abbrev pub later_values_text : List ℕ → List ℕ
later_values_text values = flat_map (λ value. codes ", " ++ decimal value) values

abbrev pub values_text : List ℕ → List ℕ
values_text [] = []
values_text (value ∷ values) = decimal value ++ later_values_text values

-- acts that read lazily, and the first read that does not: what it gives, and what it may give
abbrev pub lazy_line : List ℕ
lazy_line = codes "reads lazily\n"

abbrev pub unlazy_line : Place → ℕ → List ℕ → List ℕ
unlazy_line place value allowed = codes "does not read lazily" ++ place_text place ++ codes ": read " ++ decimal value
    ++ codes ", allowed " ++ values_text allowed ++ codes "\n"

-- acts that read in order, and the first read that does not: what it gives, and what was written last
abbrev pub ordered_line : List ℕ
ordered_line = codes "reads in order\n"

abbrev pub unordered_line : Place → ℕ → ℕ → List ℕ
unordered_line place value last = codes "does not read in order" ++ place_text place ++ codes ": read " ++ decimal value
    ++ codes ", last written " ++ decimal last ++ codes "\n"

-- the kind of an access that writes, or not
abbrev pub kind_text : Bool → List ℕ
kind_text true = codes "write"
kind_text false = codes "read"

-- two accesses that race, the earlier first
abbrev pub pair_line : RacingAccesses → List ℕ
pair_line pair = codes "race acts " ++ decimal pair.earlier ++ codes " " ++ decimal pair.later ++ codes ": word " ++ decimal pair.word
    ++ codes ", " ++ kind_text pair.earlier_writes ++ codes " " ++ kind_text pair.later_writes ++ codes "\n"
