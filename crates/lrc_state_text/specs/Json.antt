-- Lists and texts of JSON.
use Rattle.std.specs.Prelude.{ℕ, Option, None, Some, List, [], ◌∷◌, ◌++◌, codes, decimal}
use Rattle.std.specs.List.{flat_map}
use Rattle.lrc_acts_text.specs.Json.{with_commas}

-- items behind others, a comma before each
abbrev pub later : {X : Type 0} → (X → List ℕ) → List X → List ℕ
later text_of items = flat_map (λ item. codes "," ++ text_of item) items

-- items, with a comma between each two
unfoldable pub listed : {X : Type 0} → (X → List ℕ) → List X → List ℕ
listed text_of [] = []
listed text_of (first ∷ more) = text_of first ++ later text_of more

-- a list of numbers, as a time is
unfoldable pub numbers_text : List ℕ → List ℕ
numbers_text numbers = codes "[" ++ with_commas numbers ++ codes "]"

-- a number, and null where there is none
unfoldable pub number_or_null : Option ℕ → List ℕ
number_or_null None = codes "null"
number_or_null (Some number) = decimal number

-- the name of an interval: its node, and its number among those of that node
abbrev pub interval_name : (node index : ℕ) → List ℕ
interval_name node index = codes "\"" ++ decimal node ++ codes "." ++ decimal index ++ codes "\""
